-- `run_plan`: a refused plan by its verdict, an accepted one by what its run to the end leaves.
use Rattle.std.proofs.Common.{sym}
use Rattle.std.proofs.lemmas.Result.{err_from_is_err_and}
use Rattle.tampermauve.specs.Run.{lent}
use Rattle.tampermauve.proofs.Alone.{performs, refused-alone, accepted-alone}
use Rattle.tampermauve.proofs.each.run_plan.Goals as goal

pub returns-in_err-layout : goal.returns-in_err-layout
returns-in_err-layout c =
    let p = err_from_is_err_and c.from_residual.result c.from_residual.ensures.1 in
    rw (p.1, p.2) (refused-alone c.args.file.now (lent c.args.memory.now c.args.log.now c.args.report.now c.args.work.now) c.requires.1 c.in_err-layout.field-0.0 c.in_err-layout.ensures.verdict)

pub perform-requires : goal.perform-requires
perform-requires c =
    performs c.args.file.now (lent c.args.memory.now c.args.log.now c.args.report.now c.args.work.now) c.requires.1 c.requires.0 (sym c.in_ok-layout.ensures.verdict) c.in_ok-layout.ensures.layout

pub returns : goal.returns
returns c = accepted-alone c.args.file.now (lent c.args.memory.now c.args.log.now c.args.report.now c.args.work.now) c.requires.1 (sym c.in_ok-layout.ensures.verdict) c.perform.ensures
