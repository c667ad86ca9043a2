-- `Queue::kept` meets its contract: a scan.
use native.Mathlib.Omega.{arith}
use mathlib.Core.Path.{ap}
use lib.ListN.{length}
use mathlib.Core.List.{append-nil}
use Rattle.protocol.specs.Rounds.{keep}
use Rattle.queue.proofs.Laws.{member-first, member-rest}
use Rattle.queue.proofs.Picked.{length-moved, scan-keep, scan-pass}
use Rattle.queue.proofs.Queue.kept.Goals as goal

pub test-requires : goal.test-requires
test-requires g c = c.loop-w.invariant.callable c.in-Some.w (rw c.in-Some.ensures.steps.first (member-first _ _))

pub loop-w-preserved-then-test : goal.loop-w-preserved-then-test
loop-w-preserved-then-test g c =
    let next = c.in-Some.ensures.steps.first in
    let scan = c.loop-w.invariant in
    record {
      short = rw (c.push-kept.ensures, length-moved c.loop-w.kept next) scan.short;
      callable = λ v m. scan.callable v (rw next (member-rest v _ _ m));
      same = λ p post. rw c.push-kept.ensures (scan-keep p _ c.loop-w.kept next (scan.same p post) (post _ _ c.if-test.ensures));
    }

pub loop-w-preserved : goal.loop-w-preserved
loop-w-preserved g c =
    let next = c.in-Some.ensures.steps.first in
    let scan = c.loop-w.invariant in
    record {
      short = omega (arith, scan.short, ap length next);
      callable = λ v m. scan.callable v (rw next (member-rest v _ _ m));
      same = λ p post. scan-pass p _ c.loop-w.kept next (scan.same p post) (post _ _ c.if-test.ensures);
    }

pub returns : goal.returns
unfolding keep
returns g c = λ p post. rw (c.in-None.ensures.steps.first.0, append-nil, c.into_iter-w-iterator.ensures.into_iter_gives.same) at c.loop-w.invariant.same p post
