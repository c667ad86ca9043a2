-- Document 01, "Rounds", and document 02, One, Two and Five: the state of a run, and the rule of each synchronising step.
use Rattle.std.specs.Prelude.{ℕ, ◌+◌, ◌-◌, Bool, true, false, cond, not, ◌||◌, List, [], ◌∷◌, ◌++◌, ltb, eqb, length, get_or, set, take, drop}
use Rattle.protocol.specs.Ops.{op_lock, op_unlock, op_wait, op_signal, op_broadcast, op_barrier, op_exit, op_start}
use Rattle.protocol.specs.Format.{Own, Sync, lock, unlock, wait, signal, broadcast, barrier, start_worker, exit, Discipline, by_name, by_count, Plan}
use Rattle.protocol.specs.Pages.{Copies, no_copies, commit}
use Rattle.protocol.specs.Steps.{QueueName, on_condition, at_barrier, Fate, going, exited, failed, asleep, waiting, Worker, worker_of, new_worker, fate_as, arrived_as, own_step}

-- A record of the log: "round, worker, op, number, outcome".
pub record Entry : Type 0 where
  pub round : ℕ
  pub worker : ℕ
  pub op : ℕ
  pub number : ℕ
  pub outcome : ℕ

-- "It holds shared memory; each worker's place, registers, count, copies and fate; the round's list, the next list and the queues; a log;
-- tallies of moves and rounds." The queues stand in one list, `waiting`, in order of arrival.
pub record State : Type 0 where
  pub memory : List ℕ
  pub workers : List Worker
  pub list : List ℕ
  pub next : List ℕ
  pub waiting : List ℕ
  pub log : List Entry
  pub moves : ℕ
  pub rounds : ℕ

abbrev pub worker_at : State → ℕ → Worker
worker_at s w = get_or s.workers w new_worker

-- one more move, in which a worker's record changes and nothing else
abbrev pub worker_moved : ℕ → Worker → State → State
worker_moved w v s =
    record {
      memory = s.memory;
      workers = set s.workers w v;
      list = s.list;
      next = s.next;
      waiting = s.waiting;
      log = s.log;
      moves = s.moves + 1;
      rounds = s.rounds;
    }

-- A worker's own step, at the fence or with the token.
abbrev pub own_move : Own → ℕ → State → State
own_move o w s = worker_moved w (own_step s.memory o (worker_at s w)) s

-- "one that reaches a synchronising step, or its end, arrives at the fence"
abbrev pub arrival : ℕ → State → State
arrival w s = worker_moved w (arrived_as true (worker_at s w)) s

-- The queue of a condition or a barrier: those who wait on it, the first to arrive first.
abbrev pub same_queue : QueueName → QueueName → Bool
same_queue (on_condition c) (on_condition d) = eqb c d
same_queue (on_condition c) (at_barrier d) = false
same_queue (at_barrier c) (on_condition d) = false
same_queue (at_barrier c) (at_barrier d) = eqb c d

abbrev pub waits_on : QueueName → Fate → Bool
waits_on q f = elim f [ going ↦ false | exited ↦ false | failed ↦ false | asleep ↦ false | waiting p ↦ same_queue q p ]

unfoldable pub keep : (ℕ → Bool) → List ℕ → List ℕ
keep t [] = []
keep t (w ∷ ws) = cond (t w) (w ∷ keep t ws) (keep t ws)

unfoldable pub member : ℕ → List ℕ → Bool
member w [] = false
member w (v ∷ vs) = eqb w v || member w vs

unfoldable pub queue_of : State → QueueName → List ℕ
queue_of s q = keep (λ w. waits_on q (worker_at s w).fate) s.waiting

abbrev pub fate_in : State → ℕ → Fate
fate_in s w = (worker_at s w).fate

-- A rule is data: what becomes of the holder's copies, where the holder goes, and whom the step moves.
pub data Uncommitted : Type 0 where
  kept committed lost : Uncommitted

-- "When it gives up the token it joins the tail of the next round's list, unless the rule says it leaves."
pub data Goes : Type 0 where
  keeps gives : Goes
  leaves : Fate → Goes

pub record Ruling : Type 0 where
  pub bytes : Uncommitted
  pub held : List ℕ
  pub goes : Goes
  -- who "goes directly behind the holder in this round's list"
  pub wakes : List ℕ
  -- who joins the next list before the holder
  pub joins : List ℕ
  pub outcome : ℕ

abbrev pub ruling : Uncommitted → List ℕ → Goes → List ℕ → List ℕ → ℕ → Ruling
ruling b h g ws js o = record { bytes = b; held = h; goes = g; wakes = ws; joins = js; outcome = o }

-- Outcomes that name neither a worker nor a count: "barrier, 0 if it queued", "a failure 254", "the woken worker or 255 ..; wait and exit
-- 255"; One: "1, or 253 if the worker wasn't asleep".
abbrev pub outcome_queued : ℕ
outcome_queued = 0

abbrev pub outcome_started : ℕ
outcome_started = 1

abbrev pub outcome_awake : ℕ
outcome_awake = 253

abbrev pub outcome_failed : ℕ
outcome_failed = 254

abbrev pub outcome_none : ℕ
outcome_none = 255

-- "Failure: .. The worker leaves for good and its uncommitted bytes are lost." The outcome is "254 with the op as met".
abbrev pub failure : List ℕ → Ruling
failure held = ruling lost held (leaves failed) [] [] outcome_failed

-- "With count 0 give up the token, else run on."
abbrev pub gives_at_zero : ℕ → Goes
gives_at_zero count = cond (eqb count 0) gives keeps

abbrev pub commits_at_zero : ℕ → Uncommitted
commits_at_zero count = cond (eqb count 0) committed kept

-- Five: "Locking one that this worker already holds, or unlocking one that it doesn't hold, is a failure; what other workers hold plays no
-- part." By count: "Failure: unlock .. with count 0"
abbrev pub lock_fails : Discipline → ℕ → List ℕ → Bool
lock_fails by_name k held = member k held
lock_fails by_count k held = false

abbrev pub unlock_fails : Discipline → ℕ → List ℕ → Bool
unlock_fails by_name k held = not (member k held)
unlock_fails by_count k held = eqb (length held) 0

unfoldable pub remove : ℕ → List ℕ → List ℕ
remove k [] = []
remove k (j ∷ js) = cond (eqb k j) js (j ∷ remove k js)

-- what is held after it; by count a mark for each lock, whichever it is
abbrev pub locked : Discipline → ℕ → List ℕ → List ℕ
locked by_name k held = k ∷ held
locked by_count k held = 0 ∷ held

abbrev pub unlocked : Discipline → ℕ → List ℕ → List ℕ
unlocked by_name k held = remove k held
unlocked by_count k held = drop 1 held

-- "Lock: with count 0, commit. Count rises by one; the holder keeps the token and runs on." Five: "Outcomes show how many are held after."
abbrev pub lock_rule : Discipline → ℕ → List ℕ → Ruling
lock_rule d k held =
    cond (lock_fails d k held) (failure held)
    (ruling (commits_at_zero (length held)) (locked d k held) keeps [] [] (length (locked d k held)))

-- "Unlock: count falls by one. At 0, commit and give up the token; else run on.": by what is held after it
abbrev pub given_back : List ℕ → Ruling
given_back left = ruling (commits_at_zero (length left)) left (gives_at_zero (length left)) [] [] (length left)

abbrev pub unlock_rule : Discipline → ℕ → List ℕ → Ruling
unlock_rule d k held = cond (unlock_fails d k held) (failure held) (given_back (unlocked d k held))

-- "Wait: commit, leave, join the tail of that condition's queue, count kept." "Failure: .. wait with count 0"
abbrev pub wait_rule : ℕ → List ℕ → Ruling
wait_rule c held = cond (eqb (length held) 0) (failure held) (ruling committed held (leaves (waiting (on_condition c))) [] [] outcome_none)

-- A signal and a broadcast commit; whom they wake "goes directly behind the holder in this round's list".
abbrev pub wake_rule : List ℕ → List ℕ → ℕ → Ruling
wake_rule woken held outcome = ruling committed held (gives_at_zero (length held)) woken [] outcome

-- "Signal: .. the first waiter, if any". The outcome is "the woken worker or 255".
abbrev pub signal_rule : List ℕ → List ℕ → Ruling
signal_rule queued held = wake_rule (take 1 queued) held (get_or queued 0 outcome_none)

-- Two: "all waiters go directly behind the holder, first waiter first. The outcome is the number woken, 0 if none."
abbrev pub broadcast_rule : List ℕ → List ℕ → Ruling
broadcast_rule queued held = wake_rule queued held (length queued)

-- "Barrier: commit. With fewer than size − 1 queued, leave and queue. Otherwise the queued workers join the next list in order of arrival,
-- then the caller." "Failure: .. barrier .. with count above 0". The outcome is "0 if it queued, else the size".
abbrev pub barrier_rule : ℕ → ℕ → List ℕ → List ℕ → Ruling
barrier_rule b size queued held =
    cond (not (eqb (length held) 0)) (failure held)
    (cond (ltb (length queued) (size - 1))
    (ruling committed held (leaves (waiting (at_barrier b))) [] [] outcome_queued)
    (ruling committed held gives [] queued size))

-- "Exit: commit, leave." "Failure: .. exit with count above 0"
abbrev pub exit_rule : List ℕ → Ruling
exit_rule held = cond (not (eqb (length held) 0)) (failure held) (ruling committed held (leaves exited) [] [] outcome_none)

abbrev pub is_asleep : Fate → Bool
is_asleep f = elim f [ going ↦ false | exited ↦ false | failed ↦ false | asleep ↦ true | waiting q ↦ false ]

-- One: "The caller commits, the sleeper joins the tail of the next round's list, and the caller keeps the token until it gives it up by
-- another step". "Outcome: 1, or 253 if the worker wasn't asleep; then the caller still commits and keeps the token, and nobody joins a list."
abbrev pub start_rule : ℕ → Fate → List ℕ → Ruling
start_rule w f held = cond (is_asleep f) (ruling committed held keeps [] (w ∷ []) outcome_started) (ruling committed held keeps [] [] outcome_awake)

-- a step's rule, by who waits where and who has which fate
unfoldable pub rule_of : Plan → (QueueName → List ℕ) → (ℕ → Fate) → List ℕ → Sync → Ruling
rule_of plan queue fates held (lock k) = lock_rule plan.locks k held
rule_of plan queue fates held (unlock k) = unlock_rule plan.locks k held
rule_of plan queue fates held (wait c) = wait_rule c held
rule_of plan queue fates held (signal c) = signal_rule (queue (on_condition c)) held
rule_of plan queue fates held (broadcast c) = broadcast_rule (queue (on_condition c)) held
rule_of plan queue fates held (barrier b) = barrier_rule b (get_or plan.sizes b 0) (queue (at_barrier b)) held
rule_of plan queue fates held (start_worker w) = start_rule w (fates w) held
rule_of plan queue fates held exit = exit_rule held

abbrev pub op_of : Sync → ℕ
op_of y = elim y [
  | lock k ↦ op_lock
  | unlock k ↦ op_unlock
  | wait c ↦ op_wait
  | signal c ↦ op_signal
  | broadcast c ↦ op_broadcast
  | barrier b ↦ op_barrier
  | start_worker w ↦ op_start
  | exit ↦ op_exit
]

abbrev pub operand_of : Sync → ℕ
operand_of y = elim y [ lock k ↦ k | unlock k ↦ k | wait c ↦ c | signal c ↦ c | broadcast c ↦ c | barrier b ↦ b | start_worker w ↦ w | exit ↦ 0 ]

-- The holder after its step. A commit drops its copies, and so does a failure.
abbrev pub memory_after : Uncommitted → Copies → List ℕ → List ℕ
memory_after b copies memory = elim b [ kept ↦ memory | committed ↦ commit copies memory | lost ↦ memory ]

abbrev pub copies_after : Uncommitted → Copies → Copies
copies_after b copies = elim b [ kept ↦ copies | committed ↦ no_copies | lost ↦ no_copies ]

abbrev pub fate_after : Goes → Fate
fate_after g = elim g [ keeps ↦ going | gives ↦ going | leaves f ↦ f ]

-- Whoever comes back into a running round, woken from a condition, has arrived at its fence; from a barrier a worker comes back into
-- the next round.
abbrev pub is_condition : QueueName → Bool
is_condition q = elim q [ on_condition c ↦ true | at_barrier b ↦ false ]

abbrev pub has_arrived : Fate → Bool
has_arrived f = elim f [ going ↦ false | exited ↦ false | failed ↦ false | asleep ↦ false | waiting q ↦ is_condition q ]

abbrev pub arrived_after : Goes → Bool
arrived_after g = elim g [ keeps ↦ true | gives ↦ false | leaves f ↦ has_arrived f ]

abbrev pub after_ruling : Ruling → Worker → Worker
after_ruling r v =
    worker_of (v.place + 1) v.registers r.held (arrived_after r.goes) (copies_after r.bytes v.copies)
    (fate_after r.goes)

-- where the holder stands: first in this list, last in the next, or last among those who wait
abbrev pub stays_in : Goes → ℕ → List ℕ
stays_in g h = elim g [ keeps ↦ h ∷ [] | gives ↦ [] | leaves f ↦ [] ]

abbrev pub joins_next : Goes → ℕ → List ℕ
joins_next g h = elim g [ keeps ↦ [] | gives ↦ h ∷ [] | leaves f ↦ [] ]

abbrev pub is_waiting : Fate → Bool
is_waiting f = elim f [ going ↦ false | exited ↦ false | failed ↦ false | asleep ↦ false | waiting q ↦ true ]

abbrev pub joins_waiting : Goes → ℕ → List ℕ
joins_waiting g h = elim g [ keeps ↦ [] | gives ↦ [] | leaves f ↦ cond (is_waiting f) (h ∷ []) [] ]

abbrev pub without : List ℕ → List ℕ → List ℕ
without out ws = keep (λ w. not (member w out)) ws

-- those who wait or sleep no more
unfoldable pub freed : List ℕ → List Worker → List Worker
freed [] workers = workers
freed (w ∷ ws) workers = freed ws (set workers w (fate_as going (get_or workers w new_worker)))

abbrev pub entry_of : State → ℕ → Sync → ℕ → Entry
entry_of s h y outcome = record { round = s.rounds + 1; worker = h; op = op_of y; number = operand_of y; outcome = outcome }

-- What a ruling does to the state, with the holder h and the rest of this round's list behind it.
unfoldable pub apply : Sync → Ruling → ℕ → List ℕ → State → State
apply y r h rest s =
    record {
      memory = memory_after r.bytes (worker_at s h).copies s.memory;
      workers = set (freed (r.wakes ++ r.joins) s.workers) h (after_ruling r (worker_at s h));
      list = stays_in r.goes h ++ (r.wakes ++ rest);
      next = s.next ++ (r.joins ++ joins_next r.goes h);
      waiting = without (r.wakes ++ r.joins) s.waiting ++ joins_waiting r.goes h;
      log = s.log ++ (entry_of s h y r.outcome ∷ []);
      moves = s.moves + 1;
      rounds = s.rounds;
    }

-- The holder's synchronising step, by its rule.
abbrev pub sync_move : Plan → Sync → ℕ → List ℕ → State → State
sync_move plan y h rest s = apply y (rule_of plan (queue_of s) (fate_in s) (worker_at s h).held y) h rest s

-- "When the list is empty the next list begins the next round."
unfoldable pub new_round : State → State
new_round s =
    record {
      memory = s.memory;
      workers = s.workers;
      list = s.next;
      next = [];
      waiting = s.waiting;
      log = s.log;
      moves = s.moves;
      rounds = s.rounds + 1;
    }
