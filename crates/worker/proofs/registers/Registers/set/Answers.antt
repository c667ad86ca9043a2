-- `Registers::set` meets its contract: one digit is taken out and another one put in.
use Rattle.std.proofs.Common.{arith}
use Rattle.worker.proofs.Digits.{put-fits, replaced-digits}
use Rattle.worker.proofs.registers.Registers.set.Goals as goal

pub overflow_add-result : goal.overflow_add-result
overflow_add-result c = omega (arith, put-fits c.self.inside.digits c.args.r c.args.value c.requires c.self.invariant (omega arith))

pub invariant_of-result : goal.invariant_of-result
invariant_of-result c = put-fits c.self.inside.digits c.args.r c.args.value c.requires c.self.invariant (omega arith)

pub returns : goal.returns
returns c = rw (← c.self.view_is) (replaced-digits c.self.inside.digits c.args.r c.args.value c.requires c.self.invariant (omega arith))
