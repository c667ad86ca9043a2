use Rattle.tampermauve.specs.All.{batch}
use Rattle.tampermauve.proofs.PlanByPlan.{EachSoFar}
use Rattle.tampermauve.proofs.each.run_plans.Given as goal

abbrev pub invariant-loop-k : goal.invariant-loop-k
invariant-loop-k l = EachSoFar l.files l.lengths l.count (batch l.initial.memories l.initial.logs l.initial.reports l.initial.answers l.initial.work) l.turns
    l.k l.at l.accepted (batch l.memories l.logs l.reports l.answers l.work)
