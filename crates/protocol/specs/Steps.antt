-- Document 01, "Plan file" and "Rounds": a worker's private record, and its own steps.
use Rattle.std.specs.Prelude.{ℕ, ◌+◌, ◌-◌, ◌%◌, Bool, false, cond, not, List, [], eqb, get_or, set, replicate}
use Rattle.protocol.specs.Format.{Own, assign, load, store, add, subtract, skip_zero, skip_nonzero, Step, sync, exit, register_count, Plan}
use Rattle.protocol.specs.Pages.{Copies, no_copies, load_word, store_word}

-- What a worker can be queued on: one waiting list holds them all, in order of arrival, and the fate says which queue it is.
pub data QueueName : Type 0 where
  on_condition at_barrier : ℕ → QueueName

-- One: "A sleeper has fate 5 and is in no list."
pub data Fate : Type 0 where
  going exited failed asleep : Fate
  waiting : QueueName → Fate

-- "each worker's place, registers, count, copies and fate", and whether it has arrived at the fence of its round. Five: "Each worker's
-- record holds the set of its locks in place of a count": none of them stands twice in `held`, the last one taken is first. "Where document
-- 01 says count, read the size of that set": its length.
pub record Worker : Type 0 where
  pub place : ℕ
  pub registers : List ℕ
  pub held : List ℕ
  pub arrived : Bool
  pub copies : Copies
  pub fate : Fate

abbrev pub worker_of : ℕ → List ℕ → List ℕ → Bool → Copies → Fate → Worker
worker_of p rs h b cs f = record { place = p; registers = rs; held = h; arrived = b; copies = cs; fate = f }

-- "Each worker has four 16-bit registers, zero at first."
unfoldable pub new_worker : Worker
new_worker = worker_of 0 (replicate register_count 0) [] false no_copies going

-- antt has no record update: the worker with one of its parts anew
abbrev pub place_as : ℕ → Worker → Worker
place_as p v = worker_of p v.registers v.held v.arrived v.copies v.fate

abbrev pub registers_as : List ℕ → Worker → Worker
registers_as rs v = worker_of v.place rs v.held v.arrived v.copies v.fate

abbrev pub arrived_as : Bool → Worker → Worker
arrived_as b v = worker_of v.place v.registers v.held b v.copies v.fate

abbrev pub copies_as : Copies → Worker → Worker
copies_as cs v = worker_of v.place v.registers v.held v.arrived cs v.fate

abbrev pub fate_as : Fate → Worker → Worker
fate_as f v = worker_of v.place v.registers v.held v.arrived v.copies f

abbrev pub register_of : Worker → ℕ → ℕ
register_of v r = get_or v.registers r 0

abbrev pub advance : Worker → Worker
advance v = place_as (v.place + 1) v

abbrev pub setting : ℕ → ℕ → Worker → Worker
setting r k v = advance (registers_as (set v.registers r k) v)

abbrev pub skipping : Bool → ℕ → Worker → Worker
skipping b k v = place_as (v.place + 1 + cond b k 0) v

-- A worker's own step, by the table: it reads shared memory and changes nothing but the worker.
unfoldable pub own_step : List ℕ → Own → Worker → Worker
own_step memory (assign r k) v = setting r k v
own_step memory (load r a) v = setting r (load_word memory v.copies a) v
own_step memory (store r a) v = advance (copies_as (store_word memory v.copies a (register_of v r)) v)
own_step memory (add r q) v = setting r ((register_of v r + register_of v q) % 65536) v
own_step memory (subtract r q) v = setting r ((register_of v r + 65536 - register_of v q) % 65536) v
own_step memory (skip_zero r k) v = skipping (eqb (register_of v r) 0) k v
own_step memory (skip_nonzero r k) v = skipping (not (eqb (register_of v r) 0)) k v

abbrev pub steps_of : Plan → ℕ → List Step
steps_of plan w = get_or plan.steps w []

-- "Reaching the end of the steps acts as op 38."
abbrev pub step_at : Plan → ℕ → ℕ → Step
step_at plan w k = get_or (steps_of plan w) k (sync exit)
