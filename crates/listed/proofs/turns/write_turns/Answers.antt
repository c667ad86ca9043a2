-- `write_turns`: the layout tells how many turns there are, and they are the listing's.
use native.Mathlib.Omega.{arith}
use mathlib.Core.Path.{◌≡◌, ◌∙◌, subst}
use lib.ListN.{length}
use Rattle.std.proofs.Common.{take_at, length-take-le}
use Rattle.plan.specs.Checking.{CheckedAs}
use Rattle.listed.proofs.Turning.{Measured, measured, all_listed}
use Rattle.listed.proofs.turns.write_turns.Goals as goal

pub bounds-layout-n : goal.bounds-layout-n
bounds-layout-n c =
    let layout_here : Measured c.args.file.now c.in-Ok.layout =
    measured c.args.file.now c.in-Ok.layout (subst (λ r. CheckedAs c.args.file.now r) c.in-Ok.is c.check.ensures) in
    omega (arith, layout_here.most)

pub overflow_sub-layout : goal.overflow_sub-layout
overflow_sub-layout c =
    let layout_here : Measured c.args.file.now c.in-Ok.layout =
    measured c.args.file.now c.in-Ok.layout (subst (λ r. CheckedAs c.args.file.now r) c.in-Ok.is c.check.ensures) in
    omega (arith, layout_here.counted)

pub turn_count-count-requires-clause-n_le_workers_limit : goal.turn_count-count-requires-clause-n_le_workers_limit
turn_count-count-requires-clause-n_le_workers_limit c =
    let layout_here : Measured c.args.file.now c.in-Ok.layout =
    measured c.args.file.now c.in-Ok.layout (subst (λ r. CheckedAs c.args.file.now r) c.in-Ok.is c.check.ensures) in
    let l = layout_here in l.most

pub turn_count-count-requires-clause-steps_bound : goal.turn_count-count-requires-clause-steps_bound
turn_count-count-requires-clause-steps_bound c =
    let layout_here : Measured c.args.file.now c.in-Ok.layout =
    measured c.args.file.now c.in-Ok.layout (subst (λ r. CheckedAs c.args.file.now r) c.in-Ok.is c.check.ensures) in
    let l = layout_here in omega (arith, l.counted, l.few)

pub fill-requires-clause-n_nonzero : goal.fill-requires-clause-n_nonzero
fill-requires-clause-n_nonzero c =
    let layout_here : Measured c.args.file.now c.in-Ok.layout =
    measured c.args.file.now c.in-Ok.layout (subst (λ r. CheckedAs c.args.file.now r) c.in-Ok.is c.check.ensures) in
    let l = layout_here in l.some

pub fill-requires-clause-n_le_workers_limit : goal.fill-requires-clause-n_le_workers_limit
fill-requires-clause-n_le_workers_limit c =
    let layout_here : Measured c.args.file.now c.in-Ok.layout =
    measured c.args.file.now c.in-Ok.layout (subst (λ r. CheckedAs c.args.file.now r) c.in-Ok.is c.check.ensures) in
    let l = layout_here in l.most

pub returns-clause-listed : goal.returns-clause-listed
returns-clause-listed c =
    let layout_here : Measured c.args.file.now c.in-Ok.layout =
    measured c.args.file.now c.in-Ok.layout (subst (λ r. CheckedAs c.args.file.now r) c.in-Ok.is c.check.ensures) in
    let turns = c.fill.new.turns in
    let long : length turns ≡ c.turn_count-count.result =
    c.fill.ensures.turns_len_unchanged ∙ length-take-le _ _ (omega (arith, c.requires, c.turn_count-count.ensures.upper_bound)) in
    take_at turns _ c.turn_count-count.result long
    ∙ all_listed c.args.file.now turns c.in-Ok.layout layout_here (long ∙ c.turn_count-count.ensures.value) c.fill.ensures.by_index
