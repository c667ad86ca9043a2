-- `tampermauve_run`: a refused run by the answer to its tests, an accepted one by what was played and what its end leaves.
use Rattle.std.proofs.Common.{arith, sym, ap, ◌∙◌, subst, length}
use Rattle.protocol.specs.Refusals.{code_of}
use Rattle.plan.specs.Answer.{verdict_of}
use Rattle.admission.specs.Run.{lengths_of, Admits}
use Rattle.tampermauve.specs.Run.{lent}
use Rattle.tampermauve.proofs.Ran.{ran, refused-ran, acceptance, run-index}
use Rattle.tampermauve.proofs.Left.{left-same, sum_left}
use Rattle.tampermauve.proofs.Entering.{by-lengths, buffers-fit, performing}
use Rattle.tampermauve.proofs.tampermauve_run.Goals as goal
use Rattle.tampermauve.proofs.tampermauve_run.Goals.{After-admit-admitted}

-- the answer to the tests goes by the buffers' lengths
admits : (c : After-admit-admitted) → Admits c.args.file.now c.args.turns.now (lengths_of (lent c.args.memory.now c.args.log.now c.args.report.now c.args.work.now)) c.admit-admitted.result
admits c = by-lengths _ (omega arith) (omega arith) (omega arith) (omega arith) c.admit-admitted.ensures

pub code-requires : goal.code-requires
code-requires c = λ f i e. run-index c.args.file.now c.args.turns.now _ f i (sym (admits (goal.at.code-requires c).After-admit-admitted).verdict ∙ e)

pub returns-in_default : goal.returns-in_default
returns-in_default c =
    refused-ran c.args.file.now c.args.turns.now (lent c.args.memory.now c.args.log.now c.args.report.now c.args.work.now) c.in_default.field-0
    (sym (ap (λ a. verdict_of a) c.in_default.is) ∙ (admits (goal.at.returns-in_default c).After-admit-admitted).verdict)
    _ (c.code.ensures ∙ ap (λ a. code_of (verdict_of a)) c.in_default.is)

pub perform-requires : goal.perform-requires
perform-requires c =
    let admitted = subst (Admits c.args.file.now c.args.turns.now (lengths_of (lent c.args.memory.now c.args.log.now c.args.report.now c.args.work.now))) c.in-Ok.is
    (admits (goal.at.perform-requires c).After-admit-admitted) in
    performing c.args.file.now c.args.turns.now (lent c.args.memory.now c.args.log.now c.args.report.now c.args.work.now) c.in-Ok.layout admitted

pub returns : goal.returns
returns c =
    let admitted = subst (Admits c.args.file.now c.args.turns.now (lengths_of (lent c.args.memory.now c.args.log.now c.args.report.now c.args.work.now))) c.in-Ok.is
    (admits (goal.at.returns c).After-admit-admitted) in
    let worked = c.perform.new.work in
    let fit = buffers-fit c.args.file.now c.args.turns.now (lent c.args.memory.now c.args.log.now c.args.report.now c.args.work.now) c.in-Ok.layout admitted in
    ran c.args.file.now c.args.turns.now (lent c.args.memory.now c.args.log.now c.args.report.now c.args.work.now) 0 _
    (acceptance c.args.file.now c.args.turns.now (lent c.args.memory.now c.args.log.now c.args.report.now c.args.work.now) _ admitted.verdict
    (left-same c.args.file.now c.args.turns.now c.args.memory.now c.perform.ensures {long = length worked}
    c.clear.ensures (omega (arith, c.perform.auto, fit.work))))
    (λ z. sum_left c.args.file.now c.args.turns.now c.args.memory.now c.perform.ensures {long = length worked}
    c.clear.ensures (omega (arith, c.perform.auto, fit.work))
    (λ i. omega (arith, c.type_inv.memory i)) (omega (arith, c.perform.auto, fit.memory)))
