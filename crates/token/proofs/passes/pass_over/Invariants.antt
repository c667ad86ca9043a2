use Prim.Native.Nat.{◌+◌, ◌≤◌}
use Rattle.token.specs.Passes.{Passed}
use Rattle.token.proofs.passes.pass_over.Given as goal

abbrev pub invariant-loop-k : goal.invariant-loop-k
invariant-loop-k l = (l.k ≤ 12) × Passed l.turns l.can l.from (l.from + l.k)
