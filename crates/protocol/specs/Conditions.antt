-- Document 01, "Who can cause which refusal", and document 02, One and Four, as a description: the condition of each refusal, and the order in which they are tested.
-- `Refusals` and `Calls` work the verdicts out; that the first test whose condition holds decides them is proved.
use Rattle.std.specs.Prelude.{ℕ, zero, suc, ◌%◌, ◌<◌, ◌≤◌, true, false, ◌≡◌, ◌⊎◌, List, [], ◌∷◌, ◌++◌, length, get_or}
use Rattle.std.proofs.Math.Option.{some}
use Rattle.protocol.specs.Ops.{op_plan_record, op_barrier, op_start}
use Rattle.protocol.specs.Format.{Record, Row, record_length, file_limit, plan_mark, record_count, records, plan_of, row_of, is_barrier, is_sleep, is_step, is_skip, workers_in, steps_limit}
use Rattle.protocol.specs.Refusals.{Refusal, bad_length, bad_mark, bad_plan, bad_barrier, bad_worker, bad_op, bad_operand, too_many_steps, no_size, skip_too_far}
use Rattle.protocol.specs.Refusals.{bad_buffer, too_many_turns, bad_turn, bad_sleep, bad_batch, Verdict, accepted, refused}
use Rattle.protocol.specs.Turns.{workers_of}
use Rattle.protocol.specs.Calls.{Buffers, work_length, turns_limit}
use Rattle.protocol.specs.Batch.{Batch}
use Rattle.protocol.specs.WellFormed.{record_at, PlanRecord, BarrierRecord, SleepRecord, steps_before, steps_behind, Fitting, EvenlyLent}

-- "1, file length 0, not a multiple of 7, or above" 7,280
abbrev pub LengthAmiss : List ℕ → Type 0
LengthAmiss file = (length file ≡ 0) ⊎ ((length file % record_length ≡ 0 → ⊥) ⊎ (file_limit < length file))

-- The conditions of a record r, which has the index i among rs.

-- "2 mark"
abbrev pub NoMark : Record → Type 0
NoMark r = r.mark ≡ plan_mark → ⊥

-- "3 first record isn't a plan record within its limits, or op 0 later"
abbrev pub NoPlan : ℕ → Record → Type 0
NoPlan i r = ((i ≡ 0) × (PlanRecord r → ⊥)) ⊎ ((1 ≤ i) × (r.op ≡ op_plan_record))

-- a record before it of which something holds
abbrev pub Before : List Record → ℕ → (Record → Type 0) → Type 0
Before rs i P = (k : ℕ) × (k < i) × P (record_at rs k)

-- "4 barrier record out of order, after a step, or with any field out of range"; One: "A barrier record behind a sleep record is 4."
abbrev pub BarrierAmiss : List Record → ℕ → Record → Type 0
BarrierAmiss rs i r =
    (is_barrier r ≡ true)
    × (Before rs i (λ q. (is_barrier q ≡ true) × (r.register ≤ q.register))
    ⊎ (Before rs i (λ q. (is_sleep q ≡ true) ⊎ (is_step q ≡ true)) ⊎ (BarrierRecord r → ⊥)))

-- One: "14, a sleep record for worker 0 or one not below n, out of order or place, or with other bytes not zero"
abbrev pub SleepAmiss : List Record → ℕ → Record → Type 0
SleepAmiss rs i r =
    (is_sleep r ≡ true)
    × (Before rs i (λ q. (is_sleep q ≡ true) × (r.worker ≤ q.worker))
    ⊎ (Before rs i (λ q. is_step q ≡ true) ⊎ (SleepRecord (workers_in rs) r → ⊥)))

-- "6 unknown op": neither that of a plan record, nor that of a barrier record or a sleep record, and without a row
abbrev pub UnknownOp : Record → Type 0
UnknownOp r = (r.op ≡ op_plan_record → ⊥) × (is_barrier r ≡ false) × (is_sleep r ≡ false) × (is_step r ≡ false)

-- "5 step's worker not below n, or falling"
abbrev pub WorkerAmiss : List Record → ℕ → Record → Type 0
WorkerAmiss rs i r =
    (is_step r ≡ true)
    × ((workers_in rs ≤ r.worker) ⊎ Before rs i (λ q. (is_step q ≡ true) × (r.worker < q.worker)))

-- "8 a worker's 129th step"
abbrev pub StepBeyond : List Record → ℕ → Record → Type 0
StepBeyond rs i r = (is_step r ≡ true) × (steps_limit ≤ steps_before rs i r)

-- "7 operand out of range"; One: a start of "a worker" not "below n"
abbrev pub OperandOutside : List Record → Record → Type 0
OperandOutside rs r =
    ((x : Row)
    × (row_of r.op ≡ some x)
    × ((x.registers < r.register) ⊎ ((r.number < x.least) ⊎ (x.most < r.number))))
    ⊎ ((r.op ≡ op_start) × (workers_in rs ≤ r.number))

-- "9 barrier without a size"
abbrev pub SizeMissing : List Record → ℕ → Record → Type 0
SizeMissing rs i r = (r.op ≡ op_barrier) × (Before rs i (λ q. (is_barrier q ≡ true) × (q.register ≡ r.number)) → ⊥)

-- "10 skip too far"
abbrev pub SkipBeyond : List Record → ℕ → Record → Type 0
SkipBeyond rs i r = (is_skip r.op ≡ true) × (steps_behind rs i r < r.number)

-- A test: the refusal that it leads to, with its record's index, and when it is due.
pub record Test : Type 1 where
  pub refusal : Refusal
  pub index : ℕ
  pub due : Type 0

abbrev pub test : Refusal → ℕ → Type 0 → Test
test f i c = record { refusal = f; index = i; due = c }

-- "record by record in the order just written up to 9"; One: 14 "is tested where 4 is"
abbrev pub tests_of : List Record → ℕ → Record → List Test
tests_of rs i r =
    test bad_mark i (NoMark r)
    ∷ test bad_plan i (NoPlan i r)
    ∷ test bad_barrier i (BarrierAmiss rs i r)
    ∷ test bad_sleep i (SleepAmiss rs i r)
    ∷ test bad_op i (UnknownOp r)
    ∷ test bad_worker i (WorkerAmiss rs i r)
    ∷ test too_many_steps i (StepBeyond rs i r)
    ∷ test bad_operand i (OperandOutside rs r)
    ∷ test no_size i (SizeMissing rs i r)
    ∷ []

abbrev pub record_tests : List Record → ℕ → List Test
record_tests rs i = tests_of rs i (record_at rs i)

-- "then 10 over all steps"
abbrev pub skip_tests : List Record → ℕ → List Test
skip_tests rs i = test skip_too_far i (SkipBeyond rs i (record_at rs i)) ∷ []

-- the tests of k records, the first of which has the index i
unfoldable pub over : (ℕ → List Test) → ℕ → ℕ → List Test
over tests zero i = []
over tests (suc k) i = tests i ++ over tests k (suc i)

-- "A file tests 1, then record by record .., then 10 over all steps"
abbrev pub file_tests : List ℕ → List Test
file_tests file =
    test bad_length 0 (LengthAmiss file)
    ∷ (over (record_tests (records file)) (record_count file) 0 ++ over (skip_tests (records file)) (record_count file) 0)

-- "A run tests 11, 12, then the file, then 13": "11, a lent buffer of another length; 12, a turn list above 65,535 bytes"; "13, a turn
-- naming a worker not below n"
abbrev pub run_tests : List ℕ → List ℕ → Buffers → List Test
run_tests file turns b =
    test bad_buffer 0 (Fitting b → ⊥)
    ∷ test too_many_turns 0 (turns_limit < length turns)
    ∷ (file_tests file
    ++ (test bad_turn 0 ((k : ℕ) × (k < length turns) × (workers_of (plan_of file) ≤ get_or turns k 0)) ∷ []))

-- Four: "another length of it is 11, tested first. Refused: 15, a count outside 1 to 40, lengths that don't add up to the bytes lent, or
-- another buffer not count times its unit"
abbrev pub batch_tests : ℕ → List ℕ → List ℕ → Batch → List Test
batch_tests count files lengths b =
    test bad_buffer 0 (length b.work ≡ work_length → ⊥) ∷ test bad_batch 0 (EvenlyLent count files lengths b → ⊥) ∷ []

-- The first test that is due decides: its refusal and index are the verdict. Where none is due, the verdict is accepted.
unfoldable pub FirstDue : List Test → Verdict → Type 0
FirstDue [] v = v ≡ accepted
FirstDue (t ∷ ts) v = (t.due × (v ≡ refused t.refusal t.index)) ⊎ ((t.due → ⊥) × FirstDue ts v)
