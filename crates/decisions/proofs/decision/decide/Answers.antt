-- `decide` meets its contract: what the ruling promises is what the moves between the lists and the fates ask.
use Rattle.std.proofs.Common.{refl, arith}
use Rattle.protocol.specs.Rounds.{broadcast_rule}
use Rattle.rules.specs.Codes.{condition_code}
use Rattle.rules.specs.Rules.{found, ruling_of}
use Rattle.rules.proofs.Rulings.{by-broadcast}
use Rattle.decisions.proofs.Moving.{woken-moved, started-moved}
use Rattle.decisions.proofs.decision.decide.Goals as goal

pub returns-then-op-eq-BROADCAST : goal.returns-then-op-eq-BROADCAST
returns-then-op-eq-BROADCAST c = λ locks z.
    let a = c.args in
    record {
      is = broadcast_rule (found a.fates.now a.lists.waiting (condition_code a.number)) locks;
      ruled = by-broadcast (omega (arith, c.if-op-eq-BROADCAST.true)) a.number locks a.sizes.now a.lists.waiting a.fates.now;
      carried = c.broadcast.ensures locks z;
    }

pub carry_out-after-requires : goal.carry_out-after-requires
carry_out-after-requires c =
    let holding = c.requires.holding in
    let asked = c.requires.asked in
    let sound = (c.rule-ruling.ensures asked.held.locks asked.held.shown).sound in
    record {
      holder = holding.holder;
      held = holding.first;
      total = holding.total;
      room = omega (arith, c.requires.total, sound.few);
      woken = λ w e. omega (arith, woken-moved e sound.below);
      started = λ w e. omega (arith, started-moved e sound.below);
      leaving = record { below = asked.below; all = λ ws e. rw (c.code-code.ensures, c.from.ensures) (sound.all ws e); away = sound.away };
    }

pub returns : goal.returns
returns c = λ locks z.
    let rule = c.rule-ruling in
    let ruled = rule.ensures locks z in
    let after = ruled.after in
    record {
      is = ruling_of rule.result after;
      ruled = ruled.same;
      carried = record { bytes = refl; held = ruled.shown; outcome = refl; moved = c.carry_out-after.ensures after; settled = c.settle_fates.ensures after };
    }
