use Prim.Native.Nat.{ℕ, ◌%◌, ◌<◌}
use mathlib.Core.Path.{◌≡◌}
use lib.ListN.{length, get_or}
use Rattle.listed.proofs.turns.fill.Given as goal

abbrev pub invariant-loop-i : goal.invariant-loop-i
invariant-loop-i l = (length l.turns ≡ length l.initial.turns) × ((j : ℕ) → j < l.i → get_or l.turns j 0 ≡ j % l.n)
