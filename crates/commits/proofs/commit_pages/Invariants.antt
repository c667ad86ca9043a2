use mathlib.Core.Path.{◌≡◌}
use lib.ListN.{length}
use Rattle.pages.specs.Copies.{copies_in}
use Rattle.commits.specs.Blocks.{Summed}
use Rattle.commits.specs.Committing.{PagesDone}
use Rattle.commits.proofs.commit_pages.Given as goal

abbrev pub invariant-loop-p : goal.invariant-loop-p
invariant-loop-p l = record {
  size : length l.memory ≡ length l.initial.memory;
  done : PagesDone (copies_in l.copied l.work l.w) l.from l.p l.initial.memory l.memory;
  summed : Summed l.memory l.total;
}
