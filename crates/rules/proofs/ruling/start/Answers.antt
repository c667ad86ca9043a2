use Rattle.std.proofs.Common.{arith, refl}
use Rattle.rules.proofs.Rulings.{calm, starts_none, starts-one, start-coherent}
use Rattle.rules.proofs.ruling.start.Goals as goal

pub returns-then-fates-target-ne-ASLEEP : goal.returns-then-fates-target-ne-ASLEEP
returns-then-fates-target-ne-ASLEEP c =
    rw c.committed.ensures
    record {
      same = λ f e locks. starts_none c.args.fates.now c.args.target locks f e c.if-fates-target-ne-ASLEEP.true;
      kept = refl;
      coded = omega arith;
      sound = calm refl;
    }

pub returns : goal.returns
returns c =
    rw c.committed-2.ensures
    record {
      same = λ f e locks. starts-one c.args.fates.now c.args.target locks f e c.if-fates-target-ne-ASLEEP.false;
      kept = refl;
      coded = omega arith;
      sound = start-coherent c.requires c.if-fates-target-ne-ASLEEP.false;
    }
