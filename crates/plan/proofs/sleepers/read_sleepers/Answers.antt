-- `plan::sleepers::read_sleepers` meets its contract: what is left of the check is the same at each record, and the fates are those so far.
use Rattle.std.proofs.Common.{◌≡◌, ℕ, refl, sym, ap, ◌∙◌, Bool, List, length, Some}
use mathlib.Core.Path.{subst⁻¹}
use Rattle.protocol.specs.Refusals.{bad_sleep, refuse_if, holds}
use Rattle.plan.specs.Answer.{decoded_of}
use Rattle.plan.specs.Reading.{file_of, file_record}
use Rattle.plan.proofs.Recorded.{decoded-at}
use Rattle.plan.proofs.Readings.{verdict-step, unmarked-rule}
use Rattle.plan.proofs.Slept.{SleepersAt, sleepers-first, sleep-rule, sleeper-more, head_read, no-sleep-record}
use Rattle.plan.proofs.sleepers.read_sleepers.Goals as goal

pub loop-i-init : goal.loop-i-init
loop-i-init c = (
  subst⁻¹ (λ (fates : List ℕ). SleepersAt (file_of c.args.records.now) (length c.args.records.now) c.args.n c.args.start c.args.start 0 fates)
      c.requires.fates_value (sleepers-first c.requires.sleepers_coming),
  refl,
)

pub returns-in_default : goal.returns-in_default
returns-in_default c =
    rw c.at.ensures
    (record {
      least = c.loop-i.invariant.0.least;
      most = c.loop-i-test.true;
      verdict =
          sym c.loop-i.invariant.1
          ∙ verdict-step _ _ _ c.loop-i-test.true (unmarked-rule _ _ (decoded-at _ _ (sym c.decode.ensures ∙ c.in_default.is)));
    })

pub returns-then-r-ne-SLEEP_RECORD : goal.returns-then-r-ne-SLEEP_RECORD
returns-then-r-ne-SLEEP_RECORD c =
    let inv = c.loop-i.invariant in
    let decoded_here : decoded_of (file_record (file_of c.args.records.now) c.loop-i.i) ≡ Some c.in-Some.r =
    decoded-at _ _ (sym c.decode.ensures ∙ c.in-Some.is) in
    record {
      least = inv.0.least;
      most = inv.0.most;
      verdict = inv.1;
      head = head_read c.requires.sleepers_coming inv.0 (λ h. no-sleep-record (file_record (file_of c.args.records.now) c.loop-i.i) decoded_here c.if-r-ne-SLEEP_RECORD.true);
      first = inv.0.sleepers;
    }

pub returns-then-bad_sleep : goal.returns-then-bad_sleep
returns-then-bad_sleep c =
    let inv = c.loop-i.invariant in
    let decoded_here : decoded_of (file_record (file_of c.args.records.now) c.loop-i.i) ≡ Some c.in-Some.r =
    decoded-at _ _ (sym c.decode.ensures ∙ c.in-Some.is) in
    rw c.at-then-bad_sleep.ensures
    (record {
      least = inv.0.least;
      most = c.loop-i-test.true;
      verdict =
          sym inv.1
          ∙ verdict-step _ _ _ c.loop-i-test.true
          (sleep-rule c.requires.sleepers_coming inv.0 decoded_here c.if-r-ne-SLEEP_RECORD.false
          ∙ ap (λ (t : Bool). refuse_if t bad_sleep holds) (sym c.bad_sleep.ensures ∙ c.if-bad_sleep.true));
    })

pub loop-i-preserved : goal.loop-i-preserved
loop-i-preserved c =
    let inv = c.loop-i.invariant in
    let decoded_here : decoded_of (file_record (file_of c.args.records.now) c.loop-i.i) ≡ Some c.in-Some.r =
    decoded-at _ _ (sym c.decode.ensures ∙ c.in-Some.is) in
    let fine = sym c.bad_sleep.ensures ∙ c.if-bad_sleep.false in (
      sleeper-more c.requires.sleepers_coming inv.0 decoded_here c.if-r-ne-SLEEP_RECORD.false fine c.loop-i-test.true,
      sym (verdict-step _ _ _ c.loop-i-test.true
          (sleep-rule c.requires.sleepers_coming inv.0 decoded_here c.if-r-ne-SLEEP_RECORD.false ∙ ap (λ (t : Bool). refuse_if t bad_sleep holds) fine))
          ∙ inv.1,
    )
