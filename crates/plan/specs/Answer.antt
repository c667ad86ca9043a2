-- The code's enums and structs as the protocol's definitions have them.
use Rattle.std.specs.Prelude.{ℕ, ◌≤◌, cond, ◌≡◌, eqb, Option, Some, None, Result, Ok, Err}
use Rattle.std.proofs.Math.Option.{none, some}
use Rattle.protocol.specs.Format as format
use Rattle.protocol.specs.Refusals as protocol
use Rattle.plan.specs.declared.answer.Refusal.{Refusal}
use Rattle.plan.specs.declared.answer.Refusal.TheVariants as refusal
use Rattle.plan.specs.declared.answer.Refused.{Refused}
use Rattle.plan.specs.declared.decode.Record.{Record}

abbrev pub refusal_of : Refusal → protocol.Refusal
refusal_of refusal.BadLength = protocol.bad_length
refusal_of refusal.BadMark = protocol.bad_mark
refusal_of refusal.BadPlan = protocol.bad_plan
refusal_of refusal.BadBarrier = protocol.bad_barrier
refusal_of refusal.BadWorker = protocol.bad_worker
refusal_of refusal.BadOp = protocol.bad_op
refusal_of refusal.BadOperand = protocol.bad_operand
refusal_of refusal.TooManySteps = protocol.too_many_steps
refusal_of refusal.NoSize = protocol.no_size
refusal_of refusal.SkipTooFar = protocol.skip_too_far
refusal_of refusal.BadBuffer = protocol.bad_buffer
refusal_of refusal.TooManyTurns = protocol.too_many_turns
refusal_of refusal.BadTurn = protocol.bad_turn
refusal_of refusal.BadSleep = protocol.bad_sleep
refusal_of refusal.BadBatch = protocol.bad_batch

abbrev pub rule_as : Result Unit Refusal → protocol.Rule
rule_as (Ok x) = none
rule_as (Err f) = some (refusal_of f)

-- a refusal with an index, and the verdict that it is
abbrev pub refused_by : Refusal → ℕ → Refused
refused_by f i = record { refusal = f; index = i }

abbrev pub refused_as : Refused → protocol.Verdict
refused_as e = protocol.refused (refusal_of e.refusal) e.index

abbrev pub verdict_of : {T : Type 0} → Result T Refused → protocol.Verdict
verdict_of (Ok x) = protocol.accepted
verdict_of (Err e) = refused_as e

-- a record without its mark, and with it again
abbrev pub body_of : format.Record → Record
body_of r = record { worker = r.worker; op = r.op; register = r.register; number = r.number }

abbrev pub record_of : Record → format.Record
record_of r =
    record { mark = format.plan_mark; worker = r.worker; op = r.op; register = r.register; number = r.number }

abbrev pub decoded_of : format.Record → Option Record
decoded_of r = cond (eqb r.mark format.plan_mark) (Some (body_of r)) None

-- the index is that of a record
abbrev pub Indexed : {T : Type 0} → Result T Refused → Type 0
Indexed v = (f : protocol.Refusal) (i : ℕ) → verdict_of v ≡ protocol.refused f i → i ≤ format.records_limit
