-- `names_nobody`: the greatest turn tells what all do.
use Rattle.std.proofs.Common.{rules, ◌≤◌, All, Contains}
use Rattle.admission.proofs.Admitting.{greatest-tells, no-turn}
use Rattle.admission.proofs.run.names_nobody.Goals as goal

pub returns-in-Some : goal.returns-in-Some
returns-in-Some c =
    let there : Contains c.args.turns.now c.in-Some.most = search rules in
    let most : All (λ t. t ≤ c.in-Some.most) c.args.turns.now = search rules in
    greatest-tells _ _ _ there most

pub returns-in-None : goal.returns-in-None
returns-in-None c = no-turn _ _ (search rules)
