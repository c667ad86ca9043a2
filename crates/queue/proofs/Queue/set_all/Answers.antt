-- `Queue::set_all` meets its contract: to set the entries of those left, as the entries are, is to set those of all, as they were.
use Rattle.std.proofs.Common.{arith}
use Rattle.queue.proofs.Laws.{below-next, below-after}
use Rattle.queue.proofs.Queue.set_all.Goals as goal

pub bounds-entries-w : goal.bounds-entries-w
bounds-entries-w g c = below-next c.in-Some.ensures.steps.first c.loop-w.invariant.below

pub listed : goal.listed
listed g c = let below = below-next c.in-Some.ensures.steps.first c.loop-w.invariant.below in omega (arith, below, c.type_inv.entries)

pub loop-w-preserved : goal.loop-w-preserved
loop-w-preserved g c =
    let taken = c.in-Some.ensures.steps.first in
    record { same = rw taken at c.loop-w.invariant.same; below = below-after taken c.loop-w.invariant.below }
