-- Demand 3: the outcome does not hang on who moved first. What is claimed, of the definitions and of the bytes that a run leaves. And
-- document 02, Three, of the sum, Four, of many plans, Five, of locks by name, Six, of which steps synchronise, and Seven, of bytes that nobody
-- named.
use Rattle.std.specs.Prelude.{ℕ, zero, suc, ◌+◌, ◌-◌, ◌<◌, ◌≤◌, Bool, true, false, cond, not, ◌&&◌, ◌||◌, ◌≡◌, List, [], ◌∷◌, ◌++◌, leb, eqb, length, get_or, replicate}
use Rattle.protocol.specs.Ops.{op_lock, op_unlock, syncs_from}
use Rattle.protocol.specs.Format.{word, long_at, Sync, lock, unlock, wait, signal, broadcast, barrier, start_worker, exit, by_name, Plan, counting_locks, plan_of}
use Rattle.protocol.specs.Format.{records, first_in, syncs, synchronises}
use Rattle.protocol.specs.Refusals.{Refusal, number_of, accepted, refused, check}
use Rattle.protocol.specs.WellFormed.{record_at}
use Rattle.protocol.specs.Steps.{steps_of, step_at}
use Rattle.protocol.specs.Rounds.{Entry, State, worker_at, queue_of, fate_in, outcome_failed, lock_fails, unlock_fails, rule_of, entry_of}
use Rattle.protocol.specs.Turns.{workers_of, start, moving_turns, ended}
use Rattle.protocol.specs.RoundRun.{move_limit, round_run}
use Rattle.protocol.specs.Sum.{sum_of, kept_sum}
use Rattle.protocol.specs.Report.{log_bytes, report_bytes, report_sum, but_for_sum}
use Rattle.protocol.specs.Calls.{Buffers, Reply, buffers_of, log_length, work_length, played_from}
use Rattle.protocol.specs.Batch.{Batch, BatchReply, file_at, parts_of}
use Rattle.protocol.specs.Named.{named, SameNamed}

-- "A whole cycle is n turns, one right behind the other, that name each of the n workers once"
unfoldable pub occurs : ℕ → List ℕ → ℕ
occurs w [] = 0
occurs w (v ∷ vs) = cond (eqb w v) 1 0 + occurs w vs

pub record Whole (n : ℕ) (cycle : List ℕ) : Type 0 where
  pub turns : length cycle ≡ n
  pub each : (w : ℕ) → w < n → occurs w cycle ≡ 1

-- "cycles counted together share no turn": a list that holds k whole cycles, with any turns between them
pub data Cycles (n : ℕ) : ℕ → List ℕ → Type 0 where
  done : Cycles n zero []
  other : {k : ℕ} {ts : List ℕ} (w : ℕ) → Cycles n k ts → Cycles n k (w ∷ ts)
  cycle : {k : ℕ} {ts : List ℕ} (c us : List ℕ) → Whole n c → Cycles n k ts → us ≡ c ++ ts → Cycles n (suc k) us

abbrev pub Prefix : {A : Type 0} → List A → List A → Type 0
Prefix {A} xs ys = (rest : List A) × (ys ≡ xs ++ rest)

-- "Demand 3 is a single claim about the whole list of turns, the empty list included": for a plan, a starting memory and a list of turns
pub record Demand3 (plan : Plan) (memory turns : List ℕ) : Type 0 where
  -- once the plan has ended, all that there is, memory, log and report among it, is what the round-by-round run leaves
  pub same_end : ended (played_from plan memory turns) ≡ true → played_from plan memory turns ≡ round_run plan memory
  -- ended or not, the log is a prefix of the full log
  pub log_prefix : Prefix (played_from plan memory turns).log (round_run plan memory).log
  -- the report's moving turns are the turns of the list that moved
  pub moves_counted : (played_from plan memory turns).moves ≡ moving_turns plan (start plan memory) turns
  -- "None holds more than 2 × (steps + workers) turns that move"
  pub moves_bounded : moving_turns plan (start plan memory) turns ≤ move_limit plan
  -- that many whole cycles end the plan
  pub cycles_end : Cycles (workers_of plan) (move_limit plan) turns → ended (played_from plan memory turns) ≡ true
  -- the round-by-round run ends, finished or stuck
  pub round_run_ends : ended (round_run plan memory) ≡ true

-- "where a run accepts the list, the claim holds of the bytes that the run leaves in memory, log and report": for the bytes left
-- by an accepted call, from the starting memory
pub record Demand3Bytes (plan : Plan) (memory turns : List ℕ) (left : Buffers) : Type 0 where
  -- the report says ended: memory, log and report are those of the round-by-round run
  pub same_end : (get_or left.report 0 0 ≡ 0 → ⊥) → left ≡ buffers_of (round_run plan memory)
  -- the lent log holds so many records, a prefix of the full log's bytes, and then zeros
  pub log_prefix :
      (es : List Entry)
      × Prefix es (round_run plan memory).log
      × (left.log ≡ log_bytes es ++ replicate (log_length - length (log_bytes es)) 0)
      × (word (get_or left.report 6 0) (get_or left.report 7 0) ≡ length es)
  -- the report's moving turns are the turns of the list that moved, within the limit
  pub moves_counted : word (get_or left.report 2 0) (get_or left.report 3 0) ≡ moving_turns plan (start plan memory) turns
  pub moves_bounded : moving_turns plan (start plan memory) turns ≤ move_limit plan
  -- that many whole cycles end the plan
  pub cycles_end : Cycles (workers_of plan) (move_limit plan) turns → get_or left.report 0 0 ≡ 0 → ⊥

-- Three: "It equals the sum worked out afresh after any turns": the sum that is worked out at the start alone and moved by each commit
abbrev pub SumKept : Plan → List ℕ → List ℕ → Type 0
SumKept plan memory turns = kept_sum plan (start plan memory) (sum_of memory) turns ≡ sum_of (played_from plan memory turns).memory

-- .. and of the bytes that an accepted run leaves: the report's last four, low byte first, are the sum of the words of the memory that is left
abbrev pub SumShown : Buffers → Type 0
SumShown left = long_at left.report report_sum ≡ sum_of left.memory

-- Four, of one plan's parts, as lent and as left, and of its answer
pub record PlanLeft (file : List ℕ) (before after : Buffers) (answer : ℕ) : Type 0 where
  -- "Each is run with whole cycles to its end": an accepted plan leaves what the round-by-round run leaves, from its own memory
  pub ended : check file ≡ accepted → (answer ≡ 0) × (after ≡ buffers_of (round_run (plan_of file) before.memory))
  -- "or the refusal number, and that plan's own parts are untouched"
  pub untouched :
      (f : Refusal) (i : ℕ)
      → check file ≡ refused f i
      → (answer ≡ number_of f) × (after.memory ≡ before.memory) × (after.log ≡ before.log) × (after.report ≡ before.report)

-- .. and of every plan of an accepted call
abbrev pub EachLeft : ℕ → List ℕ → List ℕ → Batch → Batch → Type 0
EachLeft count files lengths before after =
    (k : ℕ) → k < count → PlanLeft (file_at files lengths k) (parts_of k before) (parts_of k after) (get_or after.answers k 0)

-- Five: "Locking one that this worker already holds, or unlocking one that it doesn't hold": the two failures, of a worker that holds these
abbrev pub misnames : List ℕ → Sync → Bool
misnames held (lock k) = lock_fails by_name k held
misnames held (unlock k) = unlock_fails by_name k held
misnames held (wait c) = false
misnames held (signal c) = false
misnames held (broadcast c) = false
misnames held (barrier b) = false
misnames held (start_worker w) = false
misnames held exit = false

-- "Each worker's record holds the set of its locks": none of them stands twice
abbrev pub HeldOnce : State → Type 0
HeldOnce s = (w k : ℕ) → occurs k (worker_at s w).held ≤ 1

-- "A plan whose round-by-round run meets neither failure": its log, by names, shows no lock and no unlock that failed
abbrev pub lock_failed : Entry → Bool
lock_failed e = (eqb e.op op_lock || eqb e.op op_unlock) && eqb e.outcome outcome_failed

unfoldable pub no_lock_failed : List Entry → Bool
no_lock_failed [] = true
no_lock_failed (e ∷ es) = not (lock_failed e) && no_lock_failed es

-- .. which it shows just where one of the two is met
abbrev pub FailureLogged : Plan → State → ℕ → Sync → Type 0
FailureLogged plan s h y =
    lock_failed (entry_of s h y (rule_of plan (queue_of s) (fate_in s) (worker_at s h).held y).outcome) ≡ misnames (worker_at s h).held y

-- ".. has, under every turn list, the memory, log and report it had": those of the same plan with its locks by count
pub record AsByCount (plan : Plan) (lent turns : List ℕ) : Type 0 where
  pub memory : (played_from plan lent turns).memory ≡ (played_from (counting_locks plan) lent turns).memory
  pub log : (played_from plan lent turns).log ≡ (played_from (counting_locks plan) lent turns).log
  pub report : report_bytes (played_from plan lent turns) ≡ report_bytes (played_from (counting_locks plan) lent turns)

-- .. and of the bytes that an accepted run leaves
abbrev pub LeftAsByCount : Plan → List ℕ → List ℕ → Buffers → Type 0
LeftAsByCount plan lent turns left = left ≡ buffers_of (played_from (counting_locks plan) lent turns)

-- Six: "The promise is the same for every byte: from 32 up it synchronises, below it doesn't, bytes that name no op included." Of every number
abbrev pub SyncsByNumber : ℕ → Type 0
SyncsByNumber o = synchronises o ≡ leb syncs_from o

-- .. and of an accepted file's steps: the step at a worker's place synchronises just when the op of its record does
abbrev pub SyncsByStep : List ℕ → Type 0
SyncsByStep file =
    (w k : ℕ)
    → k < length (steps_of (plan_of file) w)
    → synchronises (record_at (records file) (first_in (records file) w + k)).op ≡ syncs (step_at (plan_of file) w k)

-- Seven: "a byte that no load or store of any worker covers has its starting value after any turns": of the starting memory, and the memory left
abbrev pub UnnamedKept : Plan → List ℕ → List ℕ → Type 0
UnnamedKept plan memory left = (a : ℕ) → named plan a ≡ false → get_or left a 0 ≡ get_or memory a 0

-- "Two runs of one plan under one turn list, from memories that differ only in such bytes": of the two memories, and the states that are left
pub record SameButUnnamed (memory other : List ℕ) (s t : State) : Type 0 where
  -- "have equal logs, reports but for the sum"
  pub log : s.log ≡ t.log
  pub report : but_for_sum (report_bytes s) ≡ but_for_sum (report_bytes t)
  -- "and memory elsewhere": wherever the two memories were equal
  pub elsewhere : (a : ℕ) → get_or memory a 0 ≡ get_or other a 0 → get_or s.memory a 0 ≡ get_or t.memory a 0
  -- and the sums differ by what those of the two memories differ by, which is the bytes nobody named, each with its weight
  pub sums : sum_of s.memory + sum_of other ≡ sum_of t.memory + sum_of memory

-- .. and of the bytes that two accepted runs leave
pub record LeftAlike (memory other : List ℕ) (left right : Buffers) : Type 0 where
  pub log : left.log ≡ right.log
  pub report : but_for_sum left.report ≡ but_for_sum right.report
  pub elsewhere : (a : ℕ) → get_or memory a 0 ≡ get_or other a 0 → get_or left.memory a 0 ≡ get_or right.memory a 0
  pub sums : sum_of left.memory + sum_of other ≡ sum_of right.memory + sum_of memory
  pub work : (left.work ≡ replicate work_length 0) × (right.work ≡ replicate work_length 0)

-- Two calls with one file and one turn list: what is lent to them differs in bytes of memory that nobody named, and in the old contents of
-- log, report and work.
pub record LentAlike (plan : Plan) (b c : Buffers) : Type 0 where
  pub memory : SameNamed plan b.memory c.memory
  pub log : length b.log ≡ length c.log
  pub report : length b.report ≡ length c.report
  pub work : length b.work ≡ length c.work

-- They are refused alike, and each leaves what it was lent; or accepted alike.
pub record RepliedAlike (b c : Buffers) (r q : Reply) : Type 0 where
  pub returned : r.returned ≡ q.returned
  pub refused : (r.returned ≡ 0 → ⊥) → (r.buffers ≡ b) × (q.buffers ≡ c)
  pub accepted : r.returned ≡ 0 → LeftAlike b.memory c.memory r.buffers q.buffers

-- The same of two calls with many plans: of each plan's memory, and plan by plan.
pub record BatchLentAlike (count : ℕ) (files lengths : List ℕ) (b c : Batch) : Type 0 where
  pub each : (k : ℕ) → k < count → SameNamed (plan_of (file_at files lengths k)) (parts_of k b).memory (parts_of k c).memory
  pub memories : length b.memories ≡ length c.memories
  pub logs : length b.logs ≡ length c.logs
  pub reports : length b.reports ≡ length c.reports
  pub answers : length b.answers ≡ length c.answers
  pub work : length b.work ≡ length c.work

pub record BatchRepliedAlike (count : ℕ) (b c : Batch) (r q : BatchReply) : Type 0 where
  pub returned : r.returned ≡ q.returned
  pub refused : (r.returned ≡ 0 → ⊥) → (r.batch ≡ b) × (q.batch ≡ c)
  pub answers : r.returned ≡ 0 → (k : ℕ) → k < count → get_or r.batch.answers k 0 ≡ get_or q.batch.answers k 0
  pub accepted :
      r.returned ≡ 0
      → (k : ℕ)
      → k < count
      → get_or r.batch.answers k 0 ≡ 0
      → LeftAlike (parts_of k b).memory (parts_of k c).memory (parts_of k r.batch) (parts_of k q.batch)
