-- `plan::check::read_parts` meets its contract: the rules in the paper's order, each part of the file by the function that reads it.
use Rattle.std.proofs.Common.{refl, Ok, Err, sym, ◌∙◌, length}
use Rattle.plan.specs.Reading.{file_of}
use Rattle.plan.specs.Stepping.{StepsRead}
use Rattle.plan.proofs.Recorded.{decoded-at}
use Rattle.plan.proofs.Readings.{unmarked-rule}
use Rattle.plan.proofs.Checks.{cut_by, first_taken, by_length, by_first, plan-rule, rules-begun, behind-first, behind-barriers, sleepers-coming}
use Rattle.plan.proofs.Checks.{behind-sleepers, steps-so-far, laid_out, turned_down, whole_turned_down_by}
use Rattle.plan.proofs.check.read_parts.Goals as goal

pub returns-then-bad_length : goal.returns-then-bad_length
returns-then-bad_length c = rw c.at.ensures (turned_down (by_length _ (sym c.bad_length.ensures ∙ c.if-bad_length.true)))

pub returns-in_default : goal.returns-in_default
returns-in_default c =
    let cut = cut_by (sym c.bad_length.ensures ∙ c.if-bad_length.false) c.as_chunks.ensures.front c.as_chunks.ensures.front_len in
    rw c.at-in_default.ensures
    (turned_down (by_first cut (unmarked-rule _ _ (decoded-at _ _ (sym c.decode.ensures ∙ c.in_default.is)))))

pub returns-then-bad_plan : goal.returns-then-bad_plan
returns-then-bad_plan c =
    let cut = cut_by (sym c.bad_length.ensures ∙ c.if-bad_length.false) c.as_chunks.ensures.front c.as_chunks.ensures.front_len in
    rw c.at-then-bad_plan.ensures
    (turned_down (by_first cut
    (plan-rule (file_of c.as_chunks.result.0.now) (decoded-at _ _ (sym c.decode.ensures ∙ c.in-Some.is))
    (sym c.bad_plan.ensures ∙ c.if-bad_plan.true))))

pub read_barriers-requires-clause-rules_hold : goal.read_barriers-requires-clause-rules_hold
read_barriers-requires-clause-rules_hold c =
    let cut = cut_by (sym c.bad_length.ensures ∙ c.if-bad_length.false) c.as_chunks.ensures.front c.as_chunks.ensures.front_len in
    let taken = first_taken cut (sym c.decode.ensures ∙ c.in-Some.is) (sym c.bad_plan.ensures ∙ c.if-bad_plan.false) in
    rules-begun taken

pub returns-in_err-barriers : goal.returns-in_err-barriers
returns-in_err-barriers c =
    let cut = cut_by (sym c.bad_length.ensures ∙ c.if-bad_length.false) c.as_chunks.ensures.front c.as_chunks.ensures.front_len in
    let taken = first_taken cut (sym c.decode.ensures ∙ c.in-Some.is) (sym c.bad_plan.ensures ∙ c.if-bad_plan.false) in
    whole_turned_down_by c.from_residual.result _ _ _ c.from_residual.ensures.1 (behind-first taken ∙ c.in_err-barriers.ensures.verdict)

pub read_sleepers-requires-clause-sleepers_coming : goal.read_sleepers-requires-clause-sleepers_coming
read_sleepers-requires-clause-sleepers_coming c =
    let cut = cut_by (sym c.bad_length.ensures ∙ c.if-bad_length.false) c.as_chunks.ensures.front c.as_chunks.ensures.front_len in
    let taken = first_taken cut (sym c.decode.ensures ∙ c.in-Some.is) (sym c.bad_plan.ensures ∙ c.if-bad_plan.false) in
    sleepers-coming taken c.in_ok-barriers.ensures

pub returns-in_err-next : goal.returns-in_err-next
returns-in_err-next c =
    let cut = cut_by (sym c.bad_length.ensures ∙ c.if-bad_length.false) c.as_chunks.ensures.front c.as_chunks.ensures.front_len in
    let taken = first_taken cut (sym c.decode.ensures ∙ c.in-Some.is) (sym c.bad_plan.ensures ∙ c.if-bad_plan.false) in
    whole_turned_down_by c.from_residual-in_err-next.result _ _ _ c.from_residual-in_err-next.ensures.1 (behind-barriers taken c.in_ok-barriers.ensures ∙ c.in_err-next.ensures.verdict)

pub read_steps-requires-clause-steps_so_far : goal.read_steps-requires-clause-steps_so_far
read_steps-requires-clause-steps_so_far c =
    let cut = cut_by (sym c.bad_length.ensures ∙ c.if-bad_length.false) c.as_chunks.ensures.front c.as_chunks.ensures.front_len in
    let taken = first_taken cut (sym c.decode.ensures ∙ c.in-Some.is) (sym c.bad_plan.ensures ∙ c.if-bad_plan.false) in
    steps-so-far taken c.in_ok-barriers.ensures c.in_ok-next.ensures

pub returns-in_err-read_steps : goal.returns-in_err-read_steps
returns-in_err-read_steps c =
    let cut = cut_by (sym c.bad_length.ensures ∙ c.if-bad_length.false) c.as_chunks.ensures.front c.as_chunks.ensures.front_len in
    let taken = first_taken cut (sym c.decode.ensures ∙ c.in-Some.is) (sym c.bad_plan.ensures ∙ c.if-bad_plan.false) in
    let rs = c.as_chunks.result.0.now in
    let refused : StepsRead (file_of rs) (length rs) c.in_ok-barriers.barriers.sizes c.in_ok-next.next (Err c.in_err-read_steps.field-0.0)
    c.read_steps.new.firsts = c.in_err-read_steps.ensures in
    whole_turned_down_by c.from_residual-in_err-read_steps.result _ _ _ c.from_residual-in_err-read_steps.ensures.1
    (behind-sleepers taken c.in_ok-barriers.ensures c.in_ok-next.ensures ∙ sym refused.verdict)

pub returns-in_err-check_skips : goal.returns-in_err-check_skips
returns-in_err-check_skips c =
    let cut = cut_by (sym c.bad_length.ensures ∙ c.if-bad_length.false) c.as_chunks.ensures.front c.as_chunks.ensures.front_len in
    let taken = first_taken cut (sym c.decode.ensures ∙ c.in-Some.is) (sym c.bad_plan.ensures ∙ c.if-bad_plan.false) in
    let rs = c.as_chunks.result.0.now in
    let steps : StepsRead (file_of rs) (length rs) c.in_ok-barriers.barriers.sizes c.in_ok-next.next (Ok tt) c.read_steps.new.firsts
    = c.in_ok-read_steps.ensures in
    whole_turned_down_by c.from_residual-in_err-check_skips.result _ _ _ c.from_residual-in_err-check_skips.ensures.1
    (behind-sleepers taken c.in_ok-barriers.ensures c.in_ok-next.ensures ∙ (sym steps.verdict ∙ sym c.in_err-check_skips.ensures))

pub returns : goal.returns
returns c =
    let cut = cut_by (sym c.bad_length.ensures ∙ c.if-bad_length.false) c.as_chunks.ensures.front c.as_chunks.ensures.front_len in
    let taken = first_taken cut (sym c.decode.ensures ∙ c.in-Some.is) (sym c.bad_plan.ensures ∙ c.if-bad_plan.false) in
    let rs = c.as_chunks.result.0.now in
    let steps : StepsRead (file_of rs) (length rs) c.in_ok-barriers.barriers.sizes c.in_ok-next.next (Ok tt) c.read_steps.new.firsts
    = c.in_ok-read_steps.ensures in
    record {
      verdict = sym (behind-sleepers taken c.in_ok-barriers.ensures c.in_ok-next.ensures ∙ (sym steps.verdict ∙ sym c.in_ok-check_skips.ensures));
      layout = laid_out taken c.in_ok-barriers.ensures c.in_ok-next.ensures (steps.read refl) steps.size;
    }
