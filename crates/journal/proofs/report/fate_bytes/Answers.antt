-- `fate_bytes`: once the loop is over, each byte shows the fate of its worker.
use Rattle.std.proofs.Common.{get_or}
use native.Mathlib.Omega.{arith}
use Rattle.std.proofs.lemmas.List.FromFn.{fill_by_all}
use Rattle.protocol.specs.Format.{workers_limit, count_from}
use Rattle.journal.specs.Bytes.{shown}
use Rattle.journal.proofs.report.fate_bytes.Goals as goal

pub returns : goal.returns
unfolding count_from
returns c =
    fill_by_all (λ w. shown c.args.workers w (get_or c.args.fates.now w 0)) c.loop-w.byte-items workers_limit 0 c.loop-w-test.array_long
    (λ k h. c.loop-w.invariant.done k (omega (arith, h, c.loop-w-test.false)))
