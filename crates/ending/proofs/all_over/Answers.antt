-- `all_over`: the chain asks of each of the workers' codes whether it is final.
use Rattle.std.proofs.Common.{take, ◌≡◌, true, false, rules, tests}
use Rattle.std.proofs.lemmas.Iterator.{cases_from_all, YieldsList-from_slice}
use native.Mathlib.Omega.{arith}
use Rattle.ending.specs.Ending.{code_final}
use Rattle.ending.proofs.Over.{over}
use Rattle.ending.proofs.all_over.Goals as goal

pub returns : goal.returns
returns c =
    over c.args.fates.now c.args.workers _ (omega (arith, c.requires, c.told-fates))
    (cases_from_all _ _ _ (λ code. code_final code ≡ true) (λ code. code_final code ≡ false) c.all.ensures.ran
    (YieldsList-from_slice (take c.args.workers c.args.fates.now) cc)
    (λ x q k. search (rules, tests)) (λ x q k. search (rules, tests)))
