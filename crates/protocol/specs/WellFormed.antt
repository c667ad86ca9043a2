-- Document 01, "Plan file" and "Calls and buffers", and document 02, One and Four, as a description: what a well-formed file is, and what a call accepts. It speaks of no
-- test and of no order of tests.
use Rattle.std.specs.Prelude.{ℕ, suc, ◌*◌, ◌<◌, ◌≤◌, true, ◌≡◌, ◌⊎◌, List, length, get_or, take, drop}
use Rattle.std.proofs.Math.Option.{some}
use Rattle.protocol.specs.Ops.{op_plan_record, op_barrier_record, op_sleep_record, op_barrier, op_start}
use Rattle.protocol.specs.Format.{Record, Row, record_length, file_limit, plan_mark, record_count, records, plan_of, row_of, is_barrier, is_sleep, is_step}
use Rattle.protocol.specs.Format.{is_skip, workers_in, steps_in, workers_limit}
use Rattle.protocol.specs.Format.{barrier_count, size_limit, steps_limit}
use Rattle.protocol.specs.Turns.{workers_of}
use Rattle.protocol.specs.Calls.{Buffers, memory_length, log_length, report_length, work_length, turns_limit}
use Rattle.protocol.specs.Batch.{Batch, plans_limit, length_bytes, begins_at}

-- no record: its op has no row
abbrev pub blank : Record
blank = record { mark = 0; worker = 0; op = 0; register = 0; number = 0 }

abbrev pub record_at : List Record → ℕ → Record
record_at rs i = get_or rs i blank

-- "First the plan record: op 0, worker byte = count of workers n (1 to 8), register 0, number 0."
pub record PlanRecord (r : Record) : Type 0 where
  pub op : r.op ≡ op_plan_record
  pub least : 1 ≤ r.worker
  pub most : r.worker ≤ workers_limit
  pub register : r.register ≡ 0
  pub number : r.number ≡ 0

-- "op 1, worker byte 0, register = barrier (0 to 7), number = size (1 to 8). A size above n is allowed."
pub record BarrierRecord (r : Record) : Type 0 where
  pub op : r.op ≡ op_barrier_record
  pub worker : r.worker ≡ 0
  pub barrier : r.register < barrier_count
  pub least : 1 ≤ r.number
  pub most : r.number ≤ size_limit

-- One: "op 2, worker byte = the sleeper, register and number 0"; the sleeper is one of the n workers, and not worker 0
pub record SleepRecord (n : ℕ) (r : Record) : Type 0 where
  pub op : r.op ≡ op_sleep_record
  pub least : 1 ≤ r.worker
  pub most : r.worker < n
  pub register : r.register ≡ 0
  pub number : r.number ≡ 0

-- a step of one of the n workers: its op has a row of the table, and register and number are in that row's ranges
pub record StepRecord (n : ℕ) (r : Record) : Type 0 where
  pub row : Row
  pub of_table : row_of r.op ≡ some row
  pub worker : r.worker < n
  pub register : r.register ≤ row.registers
  pub least : row.least ≤ r.number
  pub most : r.number ≤ row.most
  -- One: "a worker below n as number"
  pub target : r.op ≡ op_start → r.number < n

-- how many steps of its own worker stand before a record, which has the index i among rs, and how many behind it
abbrev pub steps_before : List Record → ℕ → Record → ℕ
steps_before rs i r = length (steps_in (take i rs) r.worker)

abbrev pub steps_behind : List Record → ℕ → Record → ℕ
steps_behind rs i r = length (steps_in (drop (suc i) rs) r.worker)

pub record FormedRecords (rs : List Record) : Type 0 where
  pub marked : (i : ℕ) → i < length rs → (record_at rs i).mark ≡ plan_mark
  pub first : PlanRecord (record_at rs 0)
  -- barrier records, sleep records and steps
  pub later :
      (i : ℕ) → 1 ≤ i → i < length rs
      → BarrierRecord (record_at rs i) ⊎ (SleepRecord (workers_in rs) (record_at rs i) ⊎ StepRecord (workers_in rs) (record_at rs i))
  -- "Then at most one record per barrier, ascending"
  pub ascending :
      (i j : ℕ) → i < j → j < length rs → is_barrier (record_at rs i) ≡ true → is_barrier (record_at rs j) ≡ true
      → (record_at rs i).register < (record_at rs j).register
  -- One: "at most one per worker, ascending"
  pub sleepers_ascend :
      (i j : ℕ) → i < j → j < length rs → is_sleep (record_at rs i) ≡ true → is_sleep (record_at rs j) ≡ true
      → (record_at rs i).worker < (record_at rs j).worker
  -- One: "After the barrier records a plan may hold sleep records": no barrier record stands behind one
  pub barriers_first : (i j : ℕ) → i < j → j < length rs → is_sleep (record_at rs i) ≡ true → is_barrier (record_at rs j) ≡ true → ⊥
  -- "Then the steps": neither a barrier record nor a sleep record stands behind one
  pub steps_last :
      (i j : ℕ) → i < j → j < length rs → is_step (record_at rs i) ≡ true
      → (is_barrier (record_at rs j) ≡ true) ⊎ (is_sleep (record_at rs j) ≡ true) → ⊥
  -- "worker bytes never falling"
  pub rising :
      (i j : ℕ) → i < j → j < length rs → is_step (record_at rs i) ≡ true → is_step (record_at rs j) ≡ true
      → (record_at rs i).worker ≤ (record_at rs j).worker
  -- "at most 128 a worker"
  pub few : (w : ℕ) → length (steps_in rs w) ≤ steps_limit
  -- the barrier that a barrier step names has a size
  pub sized :
      (j : ℕ) → j < length rs → (record_at rs j).op ≡ op_barrier
      → (i : ℕ) × (i < length rs) × (is_barrier (record_at rs i) ≡ true) × ((record_at rs i).register ≡ (record_at rs j).number)
  -- "A skip may land just behind the last step, not further."
  pub skips : (i : ℕ) → i < length rs → is_skip (record_at rs i).op ≡ true → (record_at rs i).number ≤ steps_behind rs i (record_at rs i)

pub record WellFormed (file : List ℕ) : Type 0 where
  -- "Records of 7 bytes", at least one, and at most 7,280 bytes in all
  pub whole : length file ≡ record_length * record_count file
  pub some : 1 ≤ record_count file
  pub most : length file ≤ file_limit
  pub formed : FormedRecords (records file)

-- "Lent to a run: memory 2,048 bytes, log 8,256, report 16, work 32,768." Three: the report has 20.
pub record Fitting (b : Buffers) : Type 0 where
  pub memory : length b.memory ≡ memory_length
  pub log : length b.log ≡ log_length
  pub report : length b.report ≡ report_length
  pub work : length b.work ≡ work_length

-- What a run accepts: fitting buffers, a list of at most 65,535 turns, a well-formed file, and turns that name its workers.
pub record Runnable (file turns : List ℕ) (b : Buffers) : Type 0 where
  pub buffers : Fitting b
  pub short : length turns ≤ turns_limit
  pub well_formed : WellFormed file
  pub named : (k : ℕ) → k < length turns → get_or turns k 0 < workers_of (plan_of file)

-- Four: "1 to 40 plan files back to back", lengths that add up to their bytes, and a part of each buffer for each plan
pub record EvenlyLent (count : ℕ) (files lengths : List ℕ) (b : Batch) : Type 0 where
  pub least : 1 ≤ count
  pub most : count ≤ plans_limit
  pub lengths_fit : length lengths ≡ length_bytes * count
  pub memories_fit : length b.memories ≡ memory_length * count
  pub logs_fit : length b.logs ≡ log_length * count
  pub reports_fit : length b.reports ≡ report_length * count
  pub answers_fit : length b.answers ≡ count
  pub sum : begins_at lengths count ≡ length files
