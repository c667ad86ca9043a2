-- The record of the step at a worker's place, and what an own step leaves.
use Rattle.std.specs.Prelude.{ℕ, ◌+◌, ◌*◌, ◌≤◌, ◌<◌, Bool, true, false, cond, ◌≡◌, List, Option, eqb, ltb, length, get_or}
use Rattle.protocol.specs.Ops.{op_set, op_load, op_store, op_add, op_subtract, op_skip_zero, op_skip_nonzero, op_wait, op_barrier, op_exit, op_start}
use Rattle.protocol.specs.Format.{record_length, register_count, steps_limit, barrier_count, size_limit, address_limit, lock_limit, record_from, Step, step_of, synchronises}
use Rattle.protocol.specs.Steps.{Fate, own_step}
use Rattle.protocol.specs.Pages.{Copies, load_word}
use Rattle.plan.specs.Answer.{body_of, record_of}
use Rattle.plan.specs.declared.decode.Record.{Record}
use Rattle.pages.specs.Copies.{copies_in, slot_count}
use Rattle.worker.specs.Private.{viewed, own_of, copies_stored, OwnStepping}
use Rattle.worker.specs.declared.Worker.{Worker}

-- "Reaching the end of the steps acts as op 38."
abbrev pub end_body : Record
end_body = record { worker = 0; op = op_exit; register = 0; number = 0 }

-- the record at a place of the worker whose steps are the records from `first` to before `end`
unfoldable pub fetched_as : List ℕ → ℕ → ℕ → ℕ → Record
fetched_as file first end place =
    cond (ltb (first + place) end) (body_of (record_from file (record_length * (first + place)))) end_body

-- the step of a record without its mark
unfoldable pub step_of_body : Record → Step
step_of_body r = step_of (record_of r)

-- what the record of a step is like, by the table's ranges, in a plan of n workers; `sizes` has the size of each barrier
pub record InRange (n : ℕ) (sizes : List ℕ) (r : Record) : Type 0 where
  pub own : synchronises r.op ≡ false → (op_set ≤ r.op) × (r.op ≤ op_skip_nonzero)
  pub last : r.op ≤ op_start
  pub named : r.op ≤ op_skip_nonzero → r.register < register_count
  pub address : op_load ≤ r.op → r.op ≤ op_store → r.number ≤ address_limit
  pub operand : op_add ≤ r.op → r.op ≤ op_subtract → r.number < register_count
  pub skip : op_skip_zero ≤ r.op → r.op ≤ op_skip_nonzero → (1 ≤ r.number) × (r.number < steps_limit)
  pub object : synchronises r.op ≡ true → r.number ≤ lock_limit
  pub queue : op_wait ≤ r.op → r.op ≤ op_barrier → r.number < barrier_count
  pub exit : r.op ≡ op_exit → r.number ≡ 0
  pub target : r.op ≡ op_start → r.number < n
  pub size : r.op ≡ op_barrier → (1 ≤ get_or sizes r.number 0) × (get_or sizes r.number 0 ≤ size_limit)

-- what an own step takes
pub record OwnMoving (v : Worker) (r : Record) : Type 0 where
  pub ready : OwnStepping v r.op r.register r.number
  pub address : op_load ≤ r.op → r.op ≤ op_store → r.number ≤ address_limit

-- what a step reads of its address: a load the number there, any other step 0
abbrev pub read_by : ℕ → List ℕ → Copies → ℕ → ℕ
read_by op memory copies address = cond (eqb op op_load) (load_word memory copies address) 0

-- the copies after an own step: only a store changes them
abbrev pub copies_left : ℕ → Option ℕ → List ℕ → Copies → ℕ → Copies
copies_left op outcome memory copies address = cond (eqb op op_store) (copies_stored outcome memory copies address) copies

-- Worker w has made the definition's step, and every other worker has the copies that it had.
pub record OwnMoved (v : Worker) (r : Record) (w : ℕ) (memory : List ℕ) (marks : List Bool) (work : List ℕ) (marks' : List Bool) (work' : List ℕ) (v' : Worker) : Type 0 where
  pub worker :
      (locks : List ℕ) (arrived : Bool) (fate : Fate)
      → own_step memory (own_of r.op r.register r.number) (viewed v locks arrived (copies_in marks work w) fate)
      ≡ viewed v' locks arrived (copies_in marks' work' w) fate
  pub others : (u : ℕ) → (u ≡ w → ⊥) → copies_in marks' work' u ≡ copies_in marks work u
  pub size : length work' ≡ length work
  pub mark_size : length marks' ≡ slot_count
  pub held : v'.held ≡ v.held
