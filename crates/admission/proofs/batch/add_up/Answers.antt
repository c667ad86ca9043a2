-- `add_up`: after some lengths the sum is where the next file begins.
use Rattle.std.proofs.Common.{arith, sym, ap, ◌/◌, List, [], ℕ, length, get_or}
use Rattle.protocol.specs.Format.{long_at}
use Rattle.protocol.specs.Batch.{length_bytes}
use Rattle.admission.proofs.Beginning.{begins-first, begins-next, length-in}
use Rattle.admission.proofs.batch.add_up.Goals as goal

pub loop-bytes-init : goal.loop-bytes-init
loop-bytes-init c = (sym (begins-first c.args.lengths.now), omega arith)

pub loop-bytes-preserved : goal.loop-bytes-preserved
loop-bytes-preserved c =
    let lengths = c.args.lengths.now in
    let i = c.loop-bytes.bytes-index in
    let here = ap (λ (chunks : List (List ℕ)). long_at (get_or chunks i []) 0) c.as_chunks.ensures.front in
    let next = begins-next lengths i c.from_le_bytes.result (omega (
      arith,
      c.from_le_bytes.ensures,
      here,
      length-in lengths (length lengths / length_bytes) i (omega (arith, c.as_chunks.ensures.front_len, c.loop-bytes-test.true)),
    )) in
    (omega (arith, next, c.loop-bytes.invariant.0), omega (arith, c.loop-bytes.invariant.1))
