-- `plan::steps::read_steps` meets its contract: what is left of the check is the same at each record, and what is kept is right.
use Rattle.std.proofs.Common.{arith, option_copied, ◌≡◌, ℕ, ◌+◌, ◌-◌, refl, sym, ap, ◌∙◌, subst, length}
use Rattle.protocol.specs.Format.{sleepers_in}
use Rattle.plan.specs.Answer.{rule_as}
use Rattle.plan.specs.Reading.{file_of, before, verdict_from}
use Rattle.plan.proofs.Recorded.{decoded-at}
use Rattle.plan.proofs.Readings.{verdict-step, unmarked-rule}
use Rattle.plan.proofs.Stepped.{StepsKept, kept-first, begun-before, room, refused-here, filled, one-step, same-rule, no-step-rule, worker-below, step-taken, stretch-more, read_through, records-read}
use mathlib.Core.Option.{some}
use Rattle.plan.proofs.steps.read_steps.Goals as goal

pub loop-i-init : goal.loop-i-init
loop-i-init c = let so = c.requires.steps_so_far in (so.most, omega arith, λ z. refl, kept-first so c.requires.firsts_len, refl)

pub returns-in_default : goal.returns-in_default
returns-in_default c =
    let inv = c.loop-i.invariant in
    refused-here inv.3.size c.at.ensures
    (sym (verdict-step _ _ _ c.loop-i-test.true (unmarked-rule _ _ (decoded-at _ _ (sym c.decode.ensures ∙ c.in_default.is)))) ∙ inv.4)

pub returns-in_default-row_of : goal.returns-in_default-row_of
returns-in_default-row_of c =
    let inv = c.loop-i.invariant in
    let here = one-step c.requires.steps_so_far c.loop-i-test.true inv.2 inv.3 (decoded-at _ _ (sym c.decode.ensures ∙ c.in-Some.is)) in
    refused-here inv.3.size c.at-in_default-row_of.ensures
    (sym (verdict-step _ _ _ c.loop-i-test.true
    (same-rule here ∙ (no-step-rule here (sym c.row_of.ensures ∙ ap option_copied c.in_default-row_of.is) ∙ ap some (sym c.no_step.ensures))))
    ∙ inv.4)

pub step_rule-requires-clause-by_index : goal.step_rule-requires-clause-by_index
step_rule-requires-clause-by_index c = begun-before c.loop-i.invariant.3

pub returns-in-Err : goal.returns-in-Err
returns-in-Err c =
    let inv = c.loop-i.invariant in
    let here = one-step c.requires.steps_so_far c.loop-i-test.true inv.2 inv.3 (decoded-at _ _ (sym c.decode.ensures ∙ c.in-Some.is)) in
    refused-here inv.3.size c.at-in-Err.ensures
    (sym (verdict-step _ _ _ c.loop-i-test.true (same-rule here ∙ (sym c.step_rule.ensures ∙ ap rule_as c.in-Err.is))) ∙ inv.4)

pub overflow_add-firsts : goal.overflow_add-firsts
overflow_add-firsts c =
    let inv = c.loop-i.invariant in
    let here = one-step c.requires.steps_so_far c.loop-i-test.true inv.2 inv.3 (decoded-at _ _ (sym c.decode.ensures ∙ c.in-Some.is)) in
    let after = step-taken here (sym c.step_rule.ensures ∙ ap rule_as c.in_default-step_rule.is) (c.fill.ensures.after (λ y e. e)) in
    omega (arith, begun-before after c.in-Some.r.worker (omega arith), c.loop-i-test.true)

pub read_stretch-i-requires-clause-from_le_end : goal.read_stretch-i-requires-clause-from_le_end
read_stretch-i-requires-clause-from_le_end c =
    let inv = c.loop-i.invariant in
    let here = one-step c.requires.steps_so_far c.loop-i-test.true inv.2 inv.3 (decoded-at _ _ (sym c.decode.ensures ∙ c.in-Some.is)) in
    let after = step-taken here (sym c.step_rule.ensures ∙ ap rule_as c.in_default-step_rule.is) (c.fill.ensures.after (λ y e. e)) in
    omega (arith, room after c.in-Some.r.worker refl, c.min-end.ensures, c.loop-i-test.true)

pub loop-i-preserved : goal.loop-i-preserved
loop-i-preserved c =
    let a = c.args in
    let i = c.loop-i.i in
    let inv = c.loop-i.invariant in
    let here = one-step c.requires.steps_so_far c.loop-i-test.true inv.2 inv.3 (decoded-at _ _ (sym c.decode.ensures ∙ c.in-Some.is)) in
    let passed = sym c.step_rule.ensures ∙ ap rule_as c.in_default-step_rule.is in
    let below = worker-below here passed in
    let after = step-taken here passed (c.fill.ensures.after (λ y e. e)) in
    let s = c.read_stretch-i.ensures in
    let taken_here = c.loop-i-test.true in
    let end = c.min-end.ensures in
    let least = s.least in
    let most = s.most in
    let on = stretch-more refl (omega (arith, below)) (length a.records.now) (c.read_stretch-i.result - (i + 1)) (omega (arith, least)) after
    (λ j l m. (omega (arith, end, most, taken_here), omega (arith, end, most, taken_here))) s.plain in (
      omega (arith, taken_here, end, most),
      omega (arith, below),
      λ z. absurd (omega (arith, z)),
      on.0,
      on.1 ∙ (sym (verdict-step _ _ _ c.loop-i-test.true (same-rule here ∙ passed)) ∙ inv.4),
    )

pub returns : goal.returns
returns c =
    let inv = c.loop-i.invariant in
    let a = c.args in
    let file = file_of a.records.now in
    let count = length a.records.now in
    let all : c.loop-i.i ≡ count = omega (arith, inv.0, c.loop-i-test.false) in
    let opened = filled c.loop-i.firsts _ c.loop-i.opened 9 count (omega (arith, inv.1, c.requires.steps_so_far.few)) (omega (arith, inv.3.size)) (c.fill-2.ensures.after (λ y e. e)) in
    record {
      verdict = sym (read_through file count) ∙ (ap (λ (j : ℕ). verdict_from file count j) (sym all) ∙ inv.4);
      size = opened.size ∙ inv.3.size;
      read = λ q.
          let sleepers = sleepers_in (before file a.start) in
          let firsts = c.loop-i.firsts in
          records-read (subst (λ (j : ℕ). StepsKept file j a.n a.sizes.now sleepers c.loop-i.opened firsts) all inv.3) opened;
    }
