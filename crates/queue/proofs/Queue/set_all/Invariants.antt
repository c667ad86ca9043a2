use Rattle.std.proofs.Common.{◌≡◌}
use Rattle.queue.specs.List.{Below, set_all}
use Rattle.queue.proofs.Queue.set_all.Given as goal

abbrev pub invariant-loop-w : goal.invariant-loop-w
invariant-loop-w g l = record {
  same : set_all l.entry l.w-iterator l.entries ≡ set_all l.initial.entry l.initial.w-iterator l.initial.entries;
  below : Below 8 l.w-iterator;
}
