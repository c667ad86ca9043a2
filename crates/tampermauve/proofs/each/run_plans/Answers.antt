-- `run_plans`: what stands before plan k, one plan more.
use Rattle.std.proofs.Common.{arith, refl, sym, ◌∙◌}
use Rattle.tampermauve.proofs.PlanByPlan.{all-sized, none_yet, goes_on, file-within, zero-if-ok}
use Rattle.tampermauve.proofs.each.run_plans.Goals as goal

pub loop-k-init : goal.loop-k-init
loop-k-init c = none_yet c.requires.evenly_lent c.requires.work_len c.fill_stretches.ensures

pub slice_bounds-run_plan-end : goal.slice_bounds-run_plan-end
slice_bounds-run_plan-end c =
    file-within (all-sized c.requires.evenly_lent c.requires.work_len) c.loop-k.invariant c.loop-k-test.true c.requires.evenly_lent c.long_at.result c.long_at.ensures

pub loop-k-preserved : goal.loop-k-preserved
loop-k-preserved c =
    rw (c.is_ok-accepted.ensures.value ∙ sym (zero-if-ok c.run_plan-ran.result), c.answer.ensures)
    (goes_on (all-sized c.requires.evenly_lent c.requires.work_len) c.loop-k.invariant c.loop-k-test.true c.run_plan-ran.ensures refl c.long_at.ensures (omega arith)
    (omega (arith, c.run_plan-ran.auto, c.loop-k.invariant.sized.work)))
