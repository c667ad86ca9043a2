-- `plan::steps::step_rule` meets its contract: the tests of a step in their order.
use borrow.Author.Tests.{le-leb, lt-leb}
use Rattle.plan.proofs.Limited.{is_known, not-plan-record, not-barrier-record, not-sleep-record}
use Rattle.plan.proofs.steps.step_rule.Goals as goal

pub returns-then-bad_worker : goal.returns-then-bad_worker
returns-then-bad_worker c =
    let known = is_known _ _ c.requires.op_value in
    simp (not-plan-record _ known, not-barrier-record _ known, not-sleep-record _ known, known, ← c.bad_worker.ensures, c.if-bad_worker.true)

pub returns-then-steps_read-ge-STEPS_LIMIT : goal.returns-then-steps_read-ge-STEPS_LIMIT
returns-then-steps_read-ge-STEPS_LIMIT c =
    let known = is_known _ _ c.requires.op_value in
    simp (
      not-plan-record _ known,
      not-barrier-record _ known,
      not-sleep-record _ known,
      known,
      ← c.bad_worker.ensures,
      c.if-bad_worker.false,
      ← c.steps_read.ensures,
      le-leb _ _ c.if-steps_read-ge-STEPS_LIMIT.true,
    )

pub returns : goal.returns
returns c =
    let known = is_known _ _ c.requires.op_value in
    simp (
      not-plan-record _ known,
      not-barrier-record _ known,
      not-sleep-record _ known,
      known,
      ← c.bad_worker.ensures,
      c.if-bad_worker.false,
      ← c.steps_read.ensures,
      lt-leb _ _ c.if-steps_read-ge-STEPS_LIMIT.false,
    )
    c.operand_rule.ensures
