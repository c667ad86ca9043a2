use Rattle.std.proofs.Common.{◌*◌, ◌<◌, ◌≡◌, ℕ, length, get_or}
use Rattle.engine.specs.Turning.{cycle_turns}
use Rattle.tampermauve.specs.All.{turn_at}
use Rattle.tampermauve.proofs.each.fill_stretches.Given as goal

abbrev pub invariant-loop-i : goal.invariant-loop-i
invariant-loop-i l = (length l.turns ≡ 2 * cycle_turns) × ((j : ℕ) → j < l.i → get_or l.turns j 0 ≡ turn_at j)
