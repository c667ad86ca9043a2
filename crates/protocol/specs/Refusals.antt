-- Document 01, "Who can cause which refusal", and document 02, One and Four: the refusals, and the check of a plan file.
use Rattle.std.specs.Prelude.{ℕ, suc, ◌+◌, ◌*◌, ◌%◌, Bool, true, false, cond, not, ◌&&◌, ◌||◌, List, [], ◌∷◌, ◌++◌, leb, ltb, eqb, length}
use Rattle.std.proofs.Math.Option.{Option, none, some}
use Rattle.protocol.specs.Ops.{op_plan_record, op_barrier, op_start}
use Rattle.protocol.specs.Format.{Record, Row, records, record_length, file_limit, plan_mark, row_of, known, is_barrier, is_sleep, is_step, is_skip, workers_in, steps_in, workers_limit, barrier_count}
use Rattle.protocol.specs.Format.{size_limit, steps_limit}

pub data Refusal : Type 0 where
  bad_length bad_mark bad_plan bad_barrier bad_worker bad_op bad_operand too_many_steps no_size skip_too_far : Refusal
  bad_buffer too_many_turns bad_turn bad_sleep bad_batch : Refusal

-- The paper's numbers.
abbrev pub number_of : Refusal → ℕ
number_of bad_length = 1
number_of bad_mark = 2
number_of bad_plan = 3
number_of bad_barrier = 4
number_of bad_worker = 5
number_of bad_op = 6
number_of bad_operand = 7
number_of too_many_steps = 8
number_of no_size = 9
number_of skip_too_far = 10
number_of bad_buffer = 11
number_of too_many_turns = 12
number_of bad_turn = 13
number_of bad_sleep = 14
number_of bad_batch = 15

-- "A refusal returns its number and a record index (the plan record being 0; 0 unless stated)"
pub data Verdict : Type 0 where
  accepted : Verdict
  refused : Refusal → ℕ → Verdict

-- "To C both go as one number, refusal + 256 × index. An accepted call returns 0 and index 0."
abbrev pub code_of : Verdict → ℕ
code_of accepted = 0
code_of (refused f i) = number_of f + 256 * i

-- A rule names a refusal or none; the first of several rules that names one decides.
abbrev pub Rule : Type 0
Rule = Option Refusal

abbrev pub holds : Rule
holds = none

abbrev pub refuse_if : Bool → Refusal → Rule → Rule
refuse_if true f next = some f
refuse_if false f next = next

abbrev pub ruled : Rule → ℕ → Verdict → Verdict
ruled (some f) i next = refused f i
ruled none i next = next

-- whether a test holds of any of a list
unfoldable pub any_of : {A : Type 0} → (A → Bool) → List A → Bool
any_of t [] = false
any_of t (x ∷ xs) = t x || any_of t xs

abbrev pub outside : ℕ → ℕ → ℕ → Bool
outside least most k = ltb k least || ltb most k

-- "1, file length 0, not a multiple of 7, or above" 7,280, as One has it
abbrev pub wrong_length : ℕ → Bool
wrong_length bytes = eqb bytes 0 || not (eqb (bytes % record_length) 0) || ltb file_limit bytes

unfoldable pub length_rule : ℕ → Rule
length_rule bytes = refuse_if (wrong_length bytes) bad_length holds

-- "3 first record isn't a plan record within its limits": "op 0, worker byte = count of workers n (1 to 8), register 0, number 0"
abbrev pub wrong_plan : Record → Bool
wrong_plan r =
    not (eqb r.op op_plan_record) || outside 1 workers_limit r.worker || not (eqb r.register 0) || not (eqb r.number 0)

unfoldable pub plan_rule : Record → Rule
plan_rule r = refuse_if (wrong_plan r) bad_plan holds

-- "4 .. with any field out of range": "op 1, worker byte 0, register = barrier (0 to 7), number = size (1 to 8)"
abbrev pub wrong_barrier : Record → Bool
wrong_barrier r = not (eqb r.worker 0) || leb barrier_count r.register || outside 1 size_limit r.number

-- Barrier records and sleep records stand in this order, before the steps, each kind ascending by a number of its own. One is misplaced
-- behind a record of its kind whose number is no lower, and behind a record of a later kind.
abbrev pub misplaced : (kind : Record → Bool) (number : Record → ℕ) (later : Record → Bool) → List Record → Record → Bool
misplaced kind number later before r = any_of (λ q. kind q && leb (number r) (number q)) before || any_of later before

-- "4 barrier record out of order, after a step, or with any field out of range": "at most one record per barrier, ascending"; One: "A
-- barrier record behind a sleep record is 4."
abbrev pub is_behind_barriers : Record → Bool
is_behind_barriers q = is_sleep q || is_step q

unfoldable pub barrier_record_rule : List Record → Record → Rule
barrier_record_rule before r =
    refuse_if (misplaced is_barrier (λ q. q.register) is_behind_barriers before r || wrong_barrier r) bad_barrier holds

-- One: "14, a sleep record for worker 0 or one not below n, out of order or place, or with other bytes not zero; it is tested where 4 is"
abbrev pub wrong_sleep : ℕ → Record → Bool
wrong_sleep n r = eqb r.worker 0 || leb n r.worker || not (eqb r.register 0) || not (eqb r.number 0)

unfoldable pub sleep_record_rule : List Record → Record → Rule
sleep_record_rule before r =
    refuse_if (misplaced is_sleep (λ q. q.worker) is_step before r || wrong_sleep (workers_in before) r) bad_sleep holds

-- "7 operand out of range"
unfoldable pub operands_outside : Option Row → ℕ → ℕ → Bool
operands_outside none register number = true
operands_outside (some x) register number = ltb x.registers register || outside x.least x.most number

-- One: "Op 39, start, has register 0 and a worker below n as number."
abbrev pub starts_nobody : ℕ → Record → Bool
starts_nobody n r = eqb r.op op_start && leb n r.number

abbrev pub wrong_operand : ℕ → Record → Bool
wrong_operand n r = operands_outside (row_of r.op) r.register r.number || starts_nobody n r

-- "5 step's worker not below n, or falling"
abbrev pub wrong_worker : List Record → Record → Bool
wrong_worker before r = leb (workers_in before) r.worker || any_of (λ q. is_step q && ltb r.worker q.worker) before

-- "9 barrier without a size"
abbrev pub lacks_size : List Record → Record → Bool
lacks_size before r = eqb r.op op_barrier && not (any_of (λ q. is_barrier q && eqb q.register r.number) before)

-- "6 unknown op; 5 step's worker not below n, or falling; 8 a worker's 129th step; 7 operand out of range; 9 barrier without a size"
unfoldable pub step_rule : List Record → Record → Rule
step_rule before r =
    refuse_if (not (known r.op)) bad_op
    (refuse_if (wrong_worker before r) bad_worker
    (refuse_if (leb steps_limit (length (steps_in before r.worker))) too_many_steps
    (refuse_if (wrong_operand (workers_in before) r) bad_operand
    (refuse_if (lacks_size before r) no_size holds))))

-- "3 .. or op 0 later"
unfoldable pub later_rule : List Record → Record → Rule
later_rule before r =
    refuse_if (eqb r.op op_plan_record) bad_plan
    (cond (is_barrier r) (barrier_record_rule before r) (cond (is_sleep r) (sleep_record_rule before r) (step_rule before r)))

-- The rule of a record, by the records before it: "record by record in the order just written up to 9", 14 "where 4 is".
unfoldable pub record_rule : List Record → Record → Rule
record_rule [] r = refuse_if (not (eqb r.mark plan_mark)) bad_mark (plan_rule r)
record_rule (q ∷ qs) r = refuse_if (not (eqb r.mark plan_mark)) bad_mark (later_rule (q ∷ qs) r)

-- "10 skip too far": "a skip may land just behind the last step, not further", so its worker has as many steps behind it
unfoldable pub skip_rule : Record → List Record → Rule
skip_rule r behind =
    refuse_if
    (is_skip r.op && ltb (length (steps_in behind r.worker)) r.number)
    skip_too_far
    holds

-- "then 10 over all steps, the first such skip giving the index"
unfoldable pub check_skips : ℕ → List Record → Verdict
check_skips i [] = accepted
check_skips i (r ∷ rs) = ruled (skip_rule r rs) i (check_skips (suc i) rs)

unfoldable pub check_records : List Record → List Record → Verdict
check_records before [] = check_skips 0 before
check_records before (r ∷ rs) = ruled (record_rule before r) (length before) (check_records (before ++ (r ∷ [])) rs)

-- "A file tests 1, then record by record .., then 10 over all steps"
unfoldable pub check : List ℕ → Verdict
check file = ruled (length_rule (length file)) 0 (check_records [] (records file))
