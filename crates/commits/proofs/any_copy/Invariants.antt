use mathlib.Core.Path.{◌≡◌}
use Rattle.commits.specs.Committing.{any_copied}
use Rattle.commits.proofs.any_copy.Given as goal

abbrev pub invariant-loop-mark : goal.invariant-loop-mark
invariant-loop-mark l = l.any ≡ any_copied l.copied l.w l.from l.mark-index
