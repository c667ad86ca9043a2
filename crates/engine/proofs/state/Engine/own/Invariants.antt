use Prim.Native.Nat.{◌-◌}
use mathlib.Core.Path.{◌≡◌}
use lib.ListN.{length}
use Rattle.engine.specs.Kept.{kept_own}
use Rattle.engine.proofs.OwnTurns.{SoFar}
use Rattle.engine.proofs.state.Engine.own.Given as goal

abbrev pub invariant-loop-i : goal.invariant-loop-i
invariant-loop-i l =
    SoFar l.file l.firsts l.turns l.from l.made (kept_own l.initial.self l.memory l.initial.work) l.i l.moves (kept_own l.self l.memory l.work)
    × (l.self.fates ≡ l.initial.self.fates) × (l.self.can ≡ l.initial.self.can) × (l.self.held ≡ l.initial.self.held)

abbrev pub decreases-loop-i : goal.decreases-loop-i
decreases-loop-i l = length l.turns - l.i
