-- Document 01, "Plan file", and document 02, One, Five and Six: records of 7 bytes, the table of steps, and the plan that a file holds.
use Rattle.std.specs.Prelude.{ℕ, zero, suc, ◌+◌, ◌-◌, ◌*◌, ◌/◌, Bool, true, false, cond, ◌&&◌, ◌||◌, List, [], ◌∷◌, map, leb, eqb, length, get_or}
use Rattle.std.proofs.Math.Option.{Option, none, some}
use Rattle.protocol.specs.Ops.{op_barrier_record, op_sleep_record, op_set, op_load, op_store, op_add, op_subtract, op_skip_zero, op_skip_nonzero}
use Rattle.protocol.specs.Ops.{op_lock, op_unlock, op_wait, op_signal, op_broadcast, op_barrier, op_exit, op_start, syncs_from}

-- "Two-byte numbers are low byte first."
abbrev pub word : ℕ → ℕ → ℕ
word low high = low + 256 * high

-- a number of four bytes, as Three and Four have them: low byte first
abbrev pub long_at : List ℕ → ℕ → ℕ
long_at bytes at =
    word (get_or bytes at 0) (get_or bytes (at + 1) 0) + 65536 * word (get_or bytes (at + 2) 0) (get_or bytes (at + 3) 0)

-- "Records of 7 bytes: the mark 4D 50, worker, op, register (one byte each), number (two bytes)."
abbrev pub record_length : ℕ
record_length = 7

abbrev pub plan_mark : ℕ
plan_mark = word 0x4D 0x50

-- "count of workers n (1 to 8)"
abbrev pub workers_limit : ℕ
workers_limit = 8

-- "register = barrier (0 to 7), number = size (1 to 8)"
abbrev pub barrier_count : ℕ
barrier_count = 8

abbrev pub size_limit : ℕ
size_limit = 8

-- "Each worker has four 16-bit registers"
abbrev pub register_count : ℕ
register_count = 4

-- the greatest numbers of the table: values, addresses of two bytes in the memory's 2,048, locks, conditions, and steps to skip
abbrev pub value_limit : ℕ
value_limit = 65535

abbrev pub address_limit : ℕ
address_limit = 2046

abbrev pub lock_limit : ℕ
lock_limit = 15

abbrev pub condition_limit : ℕ
condition_limit = 7

abbrev pub skip_limit : ℕ
skip_limit = 127

-- "at most 128 a worker"
abbrev pub steps_limit : ℕ
steps_limit = 128

-- One: "Files may reach 7,280 bytes": a plan record, and as many barrier records, sleep records and steps of each worker as there may be
abbrev pub file_limit : ℕ
file_limit = 7280

abbrev pub records_limit : ℕ
records_limit = file_limit / record_length

pub record Record : Type 0 where
  pub mark : ℕ
  pub worker : ℕ
  pub op : ℕ
  pub register : ℕ
  pub number : ℕ

-- the record whose first byte stands at a position
unfoldable pub record_from : List ℕ → ℕ → Record
record_from file at =
    record {
      mark = word (get_or file at 0) (get_or file (at + 1) 0);
      worker = get_or file (at + 2) 0;
      op = get_or file (at + 3) 0;
      register = get_or file (at + 4) 0;
      number = word (get_or file (at + 5) 0) (get_or file (at + 6) 0);
    }

-- so many records, the first of which has the given index
unfoldable pub records_from : List ℕ → ℕ → ℕ → List Record
records_from file zero i = []
records_from file (suc k) i = record_from file (record_length * i) ∷ records_from file k (suc i)

unfoldable pub record_count : List ℕ → ℕ
record_count file = length file / record_length

unfoldable pub records : List ℕ → List Record
records file = records_from file (record_count file) 0

-- The steps: a worker's own, and those that synchronise.
-- A register comes first, then the table's number; of a synchronising step there is the number alone.
pub data Own : Type 0 where
  assign load store add subtract skip_zero skip_nonzero : ℕ → ℕ → Own

pub data Sync : Type 0 where
  lock unlock wait signal broadcast barrier start_worker : ℕ → Sync
  exit : Sync

pub data Step : Type 0 where
  own : Own → Step
  sync : Sync → Step

-- A row of the paper's table: "op | step | register, number".
-- The register is at most `registers`, the number from `least` to `most`.
pub record Row : Type 0 where
  pub op : ℕ
  pub step : ℕ → ℕ → Step
  pub registers : ℕ
  pub least : ℕ
  pub most : ℕ

abbrev row : ℕ → (ℕ → ℕ → Step) → ℕ → ℕ → ℕ → Row
row o s r l m = record { op = o; step = s; registers = r; least = l; most = m }

abbrev own_row : ℕ → (ℕ → ℕ → Own) → ℕ → ℕ → Row
own_row o s l m = row o (λ r k. own (s r k)) (register_count - 1) l m

abbrev sync_row : ℕ → (ℕ → Sync) → ℕ → Row
sync_row o s m = row o (λ r k. sync (s k)) 0 0 m

abbrev pub table : List Row
table =
    own_row op_set assign 0 value_limit
    ∷ own_row op_load load 0 address_limit
    ∷ own_row op_store store 0 address_limit
    ∷ own_row op_add add 0 (register_count - 1)
    ∷ own_row op_subtract subtract 0 (register_count - 1)
    ∷ own_row op_skip_zero skip_zero 1 skip_limit
    ∷ own_row op_skip_nonzero skip_nonzero 1 skip_limit
    ∷ sync_row op_lock lock lock_limit
    ∷ sync_row op_unlock unlock lock_limit
    ∷ sync_row op_wait wait condition_limit
    ∷ sync_row op_signal signal condition_limit
    ∷ sync_row op_broadcast broadcast condition_limit
    ∷ sync_row op_barrier barrier (barrier_count - 1)
    ∷ sync_row op_exit (λ k. exit) 0
    -- One: "Op 39, start, has register 0 and a worker below n as number": the row holds what every plan shares, and the check asks for n
    ∷ sync_row op_start start_worker (workers_limit - 1)
    ∷ []

unfoldable pub row_in : List Row → ℕ → Option Row
row_in [] o = none
row_in (x ∷ xs) o = cond (eqb x.op o) (some x) (row_in xs o)

abbrev pub row_of : ℕ → Option Row
row_of o = row_in table o

-- What a file's records hold between them. A step record is one whose op has a row.
unfoldable pub known : ℕ → Bool
known o = elim (row_of o) [ none ↦ false | some x ↦ true ]

unfoldable pub step_of : Record → Step
step_of r = elim (row_of r.op) [ none ↦ sync exit | some x ↦ x.step r.register r.number ]

-- whether a step synchronises, as its kind says
abbrev pub syncs : Step → Bool
syncs (own o) = false
syncs (sync y) = true

-- "Ops 32 and up synchronise." Six: "Which steps synchronise, as a list", "one for each op". The list is the table, in which each op stands
-- with its step; "bytes that name no op included": they go by their number.
abbrev pub syncs_by : Option Row → ℕ → Bool
syncs_by none o = leb syncs_from o
syncs_by (some x) o = syncs (x.step 0 0)

unfoldable pub synchronises : ℕ → Bool
synchronises o = syncs_by (row_of o) o

abbrev pub is_barrier : Record → Bool
is_barrier r = eqb r.op op_barrier_record

abbrev pub is_sleep : Record → Bool
is_sleep r = eqb r.op op_sleep_record

abbrev pub is_step : Record → Bool
is_step r = known r.op

-- "21, 22: skip the next k steps if register is zero, is not zero"
abbrev pub is_skip : ℕ → Bool
is_skip o = eqb o op_skip_zero || eqb o op_skip_nonzero

abbrev pub is_step_of : ℕ → Record → Bool
is_step_of w r = is_step r && eqb r.worker w

-- "First the plan record: .. worker byte = count of workers n"
abbrev pub workers_in : List Record → ℕ
workers_in [] = 0
workers_in (r ∷ rs) = r.worker

-- the size that a barrier record gives, 0 where none does
unfoldable pub size_in : List Record → ℕ → ℕ
size_in [] b = 0
size_in (r ∷ rs) b = cond (is_barrier r && eqb r.register b) r.number (size_in rs b)

-- One: "op 2, worker byte = the sleeper": the sleepers, in the file's order
unfoldable pub sleepers_in : List Record → List ℕ
sleepers_in [] = []
sleepers_in (r ∷ rs) = cond (is_sleep r) (r.worker ∷ sleepers_in rs) (sleepers_in rs)

-- a worker's steps, in the file's order
unfoldable pub steps_in : List Record → ℕ → List Step
steps_in [] w = []
steps_in (r ∷ rs) w = cond (is_step_of w r) (step_of r ∷ steps_in rs w) (steps_in rs w)

-- the step records of a file, of whichever worker
unfoldable pub step_records : List Record → ℕ
step_records [] = 0
step_records (r ∷ rs) = cond (is_step r) 1 0 + step_records rs

-- the index of the first step of worker w or a later one, or the number of records where there is none
unfoldable pub first_in : List Record → ℕ → ℕ
first_in [] w = 0
first_in (r ∷ rs) w = cond (is_step r && leb w r.worker) 0 (suc (first_in rs w))

-- the numbers i, i + 1, .. of which there are k
unfoldable pub count_from : ℕ → ℕ → List ℕ
count_from zero i = []
count_from (suc k) i = i ∷ count_from k (suc i)

abbrev pub up_to : ℕ → List ℕ
up_to k = count_from k 0

-- Five: "Locks by name." By count is how document 01 had them: "only the count matters, not which lock". That is kept for what Five
-- promises, that a plan which meets none of its failures leaves what it left by count.
pub data Discipline : Type 0 where
  by_name by_count : Discipline

-- A plan: the steps of worker 0, 1, .. n − 1, the size of each barrier, the workers that sleep at first, and how its locks go.
pub record Plan : Type 0 where
  pub steps : List (List Step)
  pub sizes : List ℕ
  pub sleepers : List ℕ
  pub locks : Discipline

unfoldable pub plan_in : List Record → Plan
plan_in rs =
    record {
      steps = map (λ w. steps_in rs w) (up_to (workers_in rs));
      sizes = map (λ b. size_in rs b) (up_to barrier_count);
      sleepers = sleepers_in rs;
      locks = by_name;
    }

-- the same plan with its locks by count
abbrev pub counting_locks : Plan → Plan
counting_locks plan = record { steps = plan.steps; sizes = plan.sizes; sleepers = plan.sleepers; locks = by_count }

abbrev pub plan_of : List ℕ → Plan
plan_of file = plan_in (records file)
