use Rattle.std.proofs.Common.{arith}
use Rattle.queue.proofs.Appending.{appended, digits_small, unit_small, list_append}
use Rattle.queue.proofs.Queue.append.Goals as goal

pub overflow_mul-result : goal.overflow_mul-result
overflow_mul-result c = omega (arith, digits_small _ _ c.self.invariant c.behind.invariant c.self.view_is c.behind.view_is c.requires)

pub overflow_add-result : goal.overflow_add-result
overflow_add-result c = omega (arith, digits_small _ _ c.self.invariant c.behind.invariant c.self.view_is c.behind.view_is c.requires)

pub overflow_mul-result-2 : goal.overflow_mul-result-2
overflow_mul-result-2 c = omega (arith, unit_small _ _ c.self.invariant c.behind.invariant c.self.view_is c.behind.view_is c.requires)

pub invariant_of-result : goal.invariant_of-result
invariant_of-result c = appended _ _ c.self.invariant c.behind.invariant c.self.view_is c.behind.view_is c.requires

pub returns : goal.returns
returns c = list_append _ _ c.self.invariant c.behind.invariant c.self.view_is c.behind.view_is c.requires
