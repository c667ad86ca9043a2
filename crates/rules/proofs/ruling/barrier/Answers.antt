use Rattle.std.proofs.Common.{arith, refl}
use Rattle.rules.proofs.Found.{met-few, met_all, met-below, met-short}
use Rattle.rules.proofs.Rulings.{calm, held_none, held_some}
use Rattle.rules.proofs.ruling.barrier.Goals as goal

pub returns-then-held-ne0-clause-means : goal.returns-then-held-ne0-clause-means
returns-then-held-ne0-clause-means c = record {
  same = λ locks s. rw (held_some locks s c.if-held-ne0.true) (c.failed.ensures.means.same locks s);
  shown = λ locks s. rw (held_some locks s c.if-held-ne0.true) (c.failed.ensures.means.shown locks s);
  coded = c.failed.ensures.means.coded;
}

pub returns-then-held-ne0-clause-sound : goal.returns-then-held-ne0-clause-sound
returns-then-held-ne0-clause-sound c = calm c.failed.ensures.calm

pub returns-then-count-size-clause-means : goal.returns-then-count-size-clause-means
returns-then-count-size-clause-means c =
    let fewer = met-few c.met-queued.ensures (omega (arith, c.count.ensures.value, c.if-count-size.true)) in
    rw c.committed.ensures
    record {
      same = λ locks s. rw (held_none locks s c.if-held-ne0.false, fewer, c.from.ensures);
      shown = λ locks s. rw (held_none locks s c.if-held-ne0.false, fewer) s;
      coded = omega (arith, c.from.ensures, c.ranges.b.fits);
    }

pub returns-then-count-size-clause-sound : goal.returns-then-count-size-clause-sound
returns-then-count-size-clause-sound c = rw c.committed.ensures (calm refl)

pub returns-clause-sound : goal.returns-clause-sound
returns-clause-sound c =
    let all = met_all c.met-queued.ensures (omega (arith, c.count.ensures.value, c.if-count-size.false)) in
    record {
      below = met-below c.met-queued.ensures c.requires;
      few = omega (arith, met-short c.met-queued.ensures);
      all = λ ws e. cc;
      away = λ w e. cc;
    }
