use Prim.Native.Nat.{◌-◌}
use lib.ListN.{length}
use Rattle.token.specs.Passes.{Passed}
use Rattle.token.proofs.passes.blocks.Given as goal

abbrev pub invariant-loop-block : goal.invariant-loop-block
invariant-loop-block l = Passed l.turns l.can l.from l.at

abbrev pub decreases-loop-block : goal.decreases-loop-block
decreases-loop-block l = length l.turns - l.at
