use Prim.Native.Nat.{ℕ, ◌<◌, ◌≤◌}
use mathlib.Core.Path.{◌≡◌}
use lib.ListN.{get_or}
use Rattle.commits.specs.Blocks.{left_of}
use Rattle.commits.proofs.write_block.Given as goal

abbrev pub invariant-loop-i : goal.invariant-loop-i
invariant-loop-i l = record {
  done : (k : ℕ) → k < l.i → get_or l.shared k 0 ≡ left_of (get_or l.mine k 0) (get_or l.twin k 0) (get_or l.initial.shared k 0);
  rest : (k : ℕ) → l.i ≤ k → get_or l.shared k 0 ≡ get_or l.initial.shared k 0;
}
