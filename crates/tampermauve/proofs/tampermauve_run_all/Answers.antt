-- `tampermauve_run_all`: a refused call by its code, an accepted one by what its plans leave.
use Rattle.std.proofs.Common.{arith, ◌+◌, ◌*◌, ◌≡◌, sym, ap, ◌∙◌, Bool, cond, length, replicate}
use Rattle.protocol.specs.Refusals.{number_of, accepted, ruled, code_of}
use Rattle.protocol.proofs.Numbered.{numbered}
use Rattle.plan.specs.Answer.{refusal_of, rule_as}
use Rattle.admission.specs.Plans.{sizes_of, batch_code}
use Rattle.tampermauve.specs.All.{batch}
use Rattle.tampermauve.proofs.AllRan.{work-fits, refused_all, accepted-all}
use Rattle.tampermauve.proofs.tampermauve_run_all.Goals as goal

pub returns-in-Err : goal.returns-in-Err
returns-in-Err c =
    let f = refusal_of c.in-Err.refusal in
    let alone : number_of f ≡ number_of f + 256 * 0 = omega arith in
    refused_all c.args.count c.args.files.now c.args.lengths.now
    (batch c.args.memories.now c.args.logs.now c.args.reports.now c.args.answers.now c.args.work.now) _
    (c.from.ensures ∙ (alone ∙ ap code_of (sym (ap (λ r. ruled (rule_as r) 0 accepted) c.in-Err.is) ∙ c.admit_batch.ensures)))
    (λ z. omega (arith, z, c.from.ensures, (numbered f).0))

pub returns-then-accepted : goal.returns-then-accepted
returns-then-accepted c =
    let none_here : batch_code c.args.count c.args.lengths.now (sizes_of c.args.files.now c.args.lengths.now
    (batch c.args.memories.now c.args.logs.now c.args.reports.now c.args.answers.now c.args.work.now)) ≡ 0 =
    ap code_of (sym c.admit_batch.ensures ∙ ap (λ r. ruled (rule_as r) 0 accepted) c.in_default.is) in
    let fits = work-fits c.args.count c.args.files.now c.args.lengths.now
    (batch c.args.memories.now c.args.logs.now c.args.reports.now c.args.answers.now c.args.work.now) none_here in
    accepted-all c.args.count c.args.files.now c.args.lengths.now
    (batch c.args.memories.now c.args.logs.now c.args.reports.now c.args.answers.now c.args.work.now) none_here c.run_plans-accepted.ensures
    (omega (arith, c.run_plans-accepted.auto, fits))
    (c.clear.ensures
    ∙ ap (λ (t : Bool). cond t (replicate (length c.run_plans-accepted.new.work) 0) c.run_plans-accepted.new.work) (sym c.if-accepted.true))

pub returns-else-accepted : goal.returns-else-accepted
returns-else-accepted c =
    let none_here : batch_code c.args.count c.args.lengths.now (sizes_of c.args.files.now c.args.lengths.now
    (batch c.args.memories.now c.args.logs.now c.args.reports.now c.args.answers.now c.args.work.now)) ≡ 0 =
    ap code_of (sym c.admit_batch.ensures ∙ ap (λ r. ruled (rule_as r) 0 accepted) c.in_default.is) in
    let fits = work-fits c.args.count c.args.files.now c.args.lengths.now
    (batch c.args.memories.now c.args.logs.now c.args.reports.now c.args.answers.now c.args.work.now) none_here in
    accepted-all c.args.count c.args.files.now c.args.lengths.now
    (batch c.args.memories.now c.args.logs.now c.args.reports.now c.args.answers.now c.args.work.now) none_here c.run_plans-accepted.ensures
    (omega (arith, c.run_plans-accepted.auto, fits))
    (ap (λ (t : Bool). cond t (replicate (length c.run_plans-accepted.new.work) 0) c.run_plans-accepted.new.work) (sym c.if-accepted.false))
