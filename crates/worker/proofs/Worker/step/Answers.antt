-- `Worker::step` meets its contract: a store, a skip, or a register set.
use Rattle.std.proofs.Common.{arith}
use Rattle.worker.proofs.OwnSteps.{skip-small, stores, skips, sets}
use Rattle.worker.proofs.Worker.step.Goals as goal

pub returns-in-18 : goal.returns-in-18
returns-in-18 c =
    let a = c.args in
    stores a.self a.op a.register a.number a.loaded c.requires c.register-value.ensures c.in-18.is

pub overflow_add-self-in-21 : goal.overflow_add-self-in-21
overflow_add-self-in-21 c =
    let a = c.args in
    omega (arith, c.requires.place, c.skipped.ensures, skip-small a.op c.register-value.result a.number (c.requires.skip (omega arith)))

pub returns-in-21 : goal.returns-in-21
returns-in-21 c =
    let a = c.args in
    skips a.self a.op a.register a.number a.loaded c.requires c.register-value.ensures (omega arith) c.skipped.ensures

pub returns-in_default : goal.returns-in_default
returns-in_default c =
    let a = c.args in
    sets a.self a.op a.register a.number a.loaded c.requires c.register-value.ensures
    (omega arith) (omega arith) c.result-result.ensures c.with_register.ensures
