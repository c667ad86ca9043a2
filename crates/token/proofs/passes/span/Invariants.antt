use Prim.Native.Nat.{◌≤◌}
use Rattle.token.specs.Passes.{Spanned}
use Rattle.token.proofs.passes.span.Given as goal

abbrev pub invariant-loop-t : goal.invariant-loop-t
invariant-loop-t l = (l.t-index ≤ 64) × Spanned l.block 0 l.t-index l.least l.most
