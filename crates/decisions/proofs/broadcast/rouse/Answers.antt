use Rattle.queue.proofs.Laws.{below-next}
use Rattle.decisions.proofs.Rousing.{rouse-start, rouse-end, rouse-wake, rouse-leave}
use Rattle.decisions.proofs.broadcast.rouse.Goals as goal

pub loop-v-init : goal.loop-v-init
loop-v-init c =
    rw (c.empty-woken.ensures, c.empty-left.ensures, c.into_iter-v-iterator.ensures.into_iter_gives.same)
    (rouse-start c.args.fates.now c.args.code c.requires c.into_iter-v-iterator.ensures.into_iter_gives.few)

pub bounds-fates-v : goal.bounds-fates-v
bounds-fates-v c = below-next c.in-Some.ensures.steps.first c.loop-v.invariant.below

pub bounds-fates-v-then-fates-v : goal.bounds-fates-v-then-fates-v
bounds-fates-v-then-fates-v c = below-next c.in-Some.ensures.steps.first c.loop-v.invariant.below

pub loop-v-preserved-then-fates-v : goal.loop-v-preserved-then-fates-v
loop-v-preserved-then-fates-v c = rw c.push-woken.ensures (rouse-wake c.loop-v.invariant c.in-Some.ensures.steps.first c.if-fates-v.true)

pub loop-v-preserved : goal.loop-v-preserved
loop-v-preserved c = rw c.push-left.ensures (rouse-leave c.loop-v.invariant c.in-Some.ensures.steps.first c.if-fates-v.false)

pub returns : goal.returns
returns c = rw c.into_iter-v-iterator.ensures.into_iter_gives.same at (rouse-end c.loop-v.invariant c.in-None.ensures.steps.first.0)
