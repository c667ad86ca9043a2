-- `Queue::among` meets its contract: the queue holds those of the workers below i whose entry is the key.
use Prim.Native.Nat.{ℕ}
use native.Mathlib.Omega.{arith}
use borrow.Author.Tests.{eq-eqb, ne_eqb}
use mathlib.Core.Bool.{Bool}
use mathlib.Core.Path.{ap}
use mathlib.Core.List.{List, append-nil}
use lib.Dec.{eqb}
use lib.ListN.{length, get_or}
use Rattle.protocol.specs.Format.{count_from}
use Rattle.protocol.specs.Rounds.{keep}
use Rattle.queue.proofs.Picked.{length-picked, picked-more}
use Rattle.queue.proofs.Queue.among.Goals as goal
use Rattle.queue.proofs.Queue.among.Goals.{else-entries-i, then-entries-i}

abbrev wanted : List ℕ → ℕ → ℕ → Bool
wanted entries entry w = eqb (get_or entries w 0) entry

pub loop-i-init : goal.loop-i-init
unfolding count_from keep
loop-i-init c = (c.empty-q.ensures, omega arith)

pub push-q-requires : goal.push-q-requires
push-q-requires c =
    let a = c.args in
    (omega (arith, length-picked (wanted a.entries.now a.entry) c.loop-i.i, ap length c.loop-i.invariant.0), omega arith)

pub loop-i-preserved : goal.loop-i-preserved
loop-i-preserved c =
    let a = c.args in
    let t = wanted a.entries.now a.entry in
    let more = picked-more t c.loop-i.i in (
      elim c.if-entries-i.branch [
        | then-entries-i z ↦ rw (z.q-is, more, z.push-q.ensures, c.loop-i.invariant.0, eq-eqb _ _ z.if-entries-i.true)
        | else-entries-i z ↦ rw (z.q-is, more, c.loop-i.invariant.0, ne_eqb _ _ z.if-entries-i.false, append-nil)
      ],
      omega arith,
    )
