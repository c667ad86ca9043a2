use Prim.Native.Nat.{◌+◌, ◌-◌, ◌*◌}
use mathlib.Core.Bool.{cond}
use lib.ListN.{length}
use Rattle.engine.specs.Kept.{kept_of}
use Rattle.engine.proofs.Played.{unpicked, Standing}
use Rattle.engine.proofs.play.play.Given as goal

abbrev pub invariant-loop-i : goal.invariant-loop-i
invariant-loop-i l = Standing l.file l.turns l.whole l.initial.memory l.i l.t (kept_of l.engine l.memory l.log l.work)

abbrev pub decreases-loop-i : goal.decreases-loop-i
decreases-loop-i l = cond l.whole (2 * (2065 - l.t.counts.moves) + unpicked l.turns l.engine.can l.i) (length l.turns - l.i)
