use Rattle.rules.specs.Rules.{ruling_of}
use Rattle.decisions.proofs.Freed.{settled}
use Rattle.decisions.proofs.fates.settle_fates.Goals as goal

pub returns : goal.returns
returns c = λ locks.
    let a = c.args in
    settled a.fates.now (ruling_of a.r.now locks) a.h _ _ c.told-fates c.requires.0 c.free_moved.ensures c.code_after.ensures
