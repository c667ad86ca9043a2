-- What the reading of the step records finds, by record index.
use Rattle.std.specs.Prelude.{ℕ, ◌+◌, ◌-◌, max, ◌<◌, ◌≤◌, Bool, true, false, cond, not, ◌&&◌, ◌||◌, ◌≡◌, List, leb, ltb, eqb, length, get_or, Some, Result}
use Rattle.protocol.specs.Ops.{op_plan_record, op_barrier_record, op_sleep_record, op_barrier}
use Rattle.protocol.specs.Format as format
use Rattle.protocol.specs.Refusals as protocol
use Rattle.protocol.specs.Refusals.{refuse_if, holds, outside}
use Rattle.protocol.specs.Calls.{both}
use Rattle.format.specs.declared.table.Row.{Row}
use Rattle.plan.specs.Answer.{record_of, decoded_of, verdict_of}
use Rattle.plan.specs.Reading.{file_record, before, verdict_from, RulesHold}
use Rattle.plan.specs.declared.decode.Record.{Record}
use Rattle.plan.specs.declared.answer.Refused.{Refused}

abbrev pub outside_of : Row → ℕ → ℕ → Bool
outside_of row register number = ltb row.registers register || outside row.least row.most number

-- a worker not below n, or that falls behind the last opened
abbrev pub refuses_worker : ℕ → ℕ → ℕ → Bool
refuses_worker n opened worker = leb n worker || ltb (worker + 1) opened

-- a worker that is opened has steps from its first up to record i
abbrev pub read_steps : List ℕ → ℕ → ℕ → ℕ → ℕ
read_steps firsts opened worker i = cond (ltb worker opened) (i - get_or firsts worker 0) 0

-- the refusal of an op without a row
abbrev pub no_step : ℕ → protocol.Refusal
no_step op =
    cond (eqb op op_plan_record) protocol.bad_plan
    (cond (eqb op op_barrier_record) protocol.bad_barrier (cond (eqb op op_sleep_record) protocol.bad_sleep protocol.bad_op))

-- The rules of a record behind the sleep records, from what has been kept of the records before it: of a step's operands, of a step,
-- and of any record.
abbrev pub kept_operand_rule : ℕ → List ℕ → Record → protocol.Rule
kept_operand_rule n sizes r =
    refuse_if (protocol.wrong_operand n (record_of r)) protocol.bad_operand
    (refuse_if (eqb r.op op_barrier && eqb (get_or sizes r.number 0) 0) protocol.no_size holds)

abbrev pub kept_step_rule : ℕ → ℕ → List ℕ → List ℕ → ℕ → Record → protocol.Rule
kept_step_rule n opened sizes firsts i r =
    refuse_if (not (format.known r.op)) protocol.bad_op
    (refuse_if (refuses_worker n opened r.worker) protocol.bad_worker
    (refuse_if (leb format.steps_limit (read_steps firsts opened r.worker i)) protocol.too_many_steps (kept_operand_rule n sizes r)))

abbrev pub kept_rule : ℕ → ℕ → List ℕ → List ℕ → ℕ → Record → protocol.Rule
kept_rule n opened sizes firsts i r =
    refuse_if (eqb r.op op_plan_record) protocol.bad_plan
    (refuse_if (eqb r.op op_barrier_record) protocol.bad_barrier
    (refuse_if (eqb r.op op_sleep_record) protocol.bad_sleep (kept_step_rule n opened sizes firsts i r)))

-- the workers from `opened` up to `ends` begin at record i, those below where they did
pub record WorkersOpened (old : List ℕ) (opened ends i : ℕ) (new : List ℕ) : Type 0 where
  pub size : length new ≡ length old
  pub inside : (k : ℕ) → opened ≤ k → k < ends → k < length old → get_or new k 0 ≡ i
  pub below : (k : ℕ) → k < opened → get_or new k 0 ≡ get_or old k 0

-- record i is a step of worker w, and its operands keep their rule
pub record PlainStep (file : List ℕ) (n : ℕ) (sizes : List ℕ) (w i : ℕ) : Type 0 where
  pub body : Record
  pub decoded : decoded_of (file_record file i) ≡ Some body
  pub same : body.worker ≡ w
  pub known : format.known body.op ≡ true
  pub operands : kept_operand_rule n sizes body ≡ holds

-- such steps from one record up to another. How far they are read is left open, since each record from there on is looked at again.
pub record StretchRead (file : List ℕ) (n : ℕ) (sizes : List ℕ) (w from ends r : ℕ) : Type 0 where
  pub least : from ≤ r
  pub most : r ≤ max from ends
  pub plain : (k : ℕ) → from ≤ k → k < r → PlainStep file n sizes w k

-- the records before the steps
pub record StepsSoFar (file : List ℕ) (count n : ℕ) (sizes : List ℕ) (start : ℕ) : Type 0 where
  pub least : 1 ≤ start
  pub most : start ≤ count
  pub workers : format.workers_in (before file start) ≡ n
  pub few : n ≤ format.workers_limit
  pub rules : RulesHold file start
  pub no_step : protocol.any_of format.is_step (before file start) ≡ false
  pub size : length sizes ≡ format.barrier_count
  pub sizes_right : (b : ℕ) → b < format.barrier_count → get_or sizes b 0 ≡ format.size_in (before file start) b
  pub no_barrier : start < count → format.is_barrier (file_record file start) ≡ true → protocol.any_of format.is_sleep (before file start) ≡ true
  pub no_sleep : start < count → format.is_sleep (file_record file start) ≡ false

-- what an accepted file's records say of barriers and steps; all sleep records stand before record `start`
pub record RecordsRead (file : List ℕ) (count : ℕ) (sizes : List ℕ) (start : ℕ) (firsts : List ℕ) : Type 0 where
  pub rules : RulesHold file count
  pub sizes_right : (b : ℕ) → b < format.barrier_count → get_or sizes b 0 ≡ format.size_in (before file count) b
  pub firsts_right : (w : ℕ) → w < format.workers_limit + 1 → get_or firsts w 0 ≡ format.first_in (before file count) w
  pub sleepers : format.sleepers_in (before file count) ≡ format.sleepers_in (before file start)

-- the whole file, or the refusal
pub record StepsRead (file : List ℕ) (count : ℕ) (sizes : List ℕ) (start : ℕ) (v : Result Unit Refused) (firsts : List ℕ) : Type 0 where
  pub verdict : both (verdict_of v) (protocol.check_skips 0 (before file count)) ≡ verdict_from file count start
  pub size : length firsts ≡ format.workers_limit + 1
  pub read : verdict_of v ≡ protocol.accepted → RecordsRead file count sizes start firsts
