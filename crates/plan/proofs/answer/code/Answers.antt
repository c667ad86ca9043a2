-- `plan::answer::code` meets its contract: an index is that of a record, so the sum fits.
use Rattle.std.proofs.Common.{arith, ◌≡◌, ◌≤◌, ap, Result, Err}
use Rattle.protocol.specs.Format.{records_limit}
use Rattle.protocol.proofs.Numbered.{numbered}
use Rattle.plan.specs.Answer.{refusal_of, verdict_of, Indexed}
use Rattle.plan.specs.declared.answer.Refused.{Refused}
use Rattle.plan.proofs.answer.code.Goals as goal

within : {T : Type 0} (a : Result T Refused) (e : Refused) → Indexed a → a ≡ Err e → e.index ≤ records_limit
within a e h same = h (refusal_of e.refusal) e.index (ap (λ a. verdict_of a) same)

pub overflow_cast-result : goal.overflow_cast-result
overflow_cast-result g c = omega (arith, within _ _ c.requires c.in-Err.is)

pub overflow_mul-result : goal.overflow_mul-result
overflow_mul-result g c = omega (arith, within _ _ c.requires c.in-Err.is)

pub overflow_add-result : goal.overflow_add-result
overflow_add-result g c = omega (arith, within _ _ c.requires c.in-Err.is, (numbered (refusal_of c.in-Err.refused.refusal)).1, c.from.ensures)
