-- What a ruling of the code stands for, and what `rule` takes and ensures.
use Rattle.std.specs.Prelude.{ℕ, ◌+◌, ◌^◌, ◌≤◌, ◌<◌, true, false, cond, ◌≡◌, List, [], ◌∷◌, ◌++◌, eqb, length, get_or}
use Rattle.protocol.specs.Ops.{op_signal, op_broadcast, op_barrier, op_start}
use Rattle.protocol.specs.Format.{workers_limit, barrier_count, lock_limit, synchronises, by_name, Plan}
use Rattle.protocol.specs.Steps as steps
use Rattle.protocol.specs.Steps.{QueueName, on_condition, at_barrier}
use Rattle.protocol.specs.Rounds as rounds
use Rattle.protocol.specs.Rounds.{keep, member, fate_after, commits_at_zero, gives_at_zero, start_rule, rule_of, outcome_none}
use Rattle.format.specs.Fates.{code_asleep}
use Rattle.locks.specs.Set.{Shows, Held}
use Rattle.queue.specs.List.{Below}
use Rattle.rules.specs.declared.ruling.Uncommitted.{Uncommitted}
use Rattle.rules.specs.declared.ruling.Uncommitted.TheVariants.{Committed}
use Rattle.rules.specs.declared.ruling.Goes.{Goes}
use Rattle.rules.specs.declared.ruling.Goes.TheVariants.{Keeps}
use Rattle.rules.specs.declared.ruling.Moves.{Moves}
use Rattle.rules.specs.declared.ruling.Moves.TheVariants.{Nobody, Wakes, Joins, Starts}
use Rattle.rules.specs.declared.ruling.Ruling.{Ruling}
use Rattle.rules.specs.Codes.{fate_code, condition_code, barrier_code, uncommitted_of, goes_of, sync_of}

-- whom a step wakes
abbrev pub woken_of : Moves → List ℕ
woken_of Nobody = []
woken_of (Wakes w) = w ∷ []
woken_of (Joins ws) = []
woken_of (Starts w) = []

-- who joins the next list
abbrev pub joined_of : Moves → List ℕ
joined_of Nobody = []
joined_of (Wakes w) = []
joined_of (Joins ws) = ws
joined_of (Starts w) = w ∷ []

abbrev pub moved_of : Moves → List ℕ
moved_of moves = woken_of moves ++ joined_of moves

-- what the ruling leaves the holder with is a number, which shows the locks
abbrev pub ruling_of : Ruling → List ℕ → rounds.Ruling
ruling_of r locks = rounds.ruling (uncommitted_of r.bytes) locks (goes_of r.goes) (woken_of r.moves) (joined_of r.moves) r.outcome

-- a commit after which the holder keeps the token, and nobody is moved
abbrev pub commit_alone : ℕ → Ruling
commit_alone held = record { bytes = Committed; held = held; goes = Keeps; moves = Nobody; outcome = outcome_none }

-- those of a list whose fate's code is the key
abbrev pub found : List ℕ → List ℕ → ℕ → List ℕ
found fates waiting code = keep (λ w. eqb (get_or fates w 0) code) waiting

-- the code of the holder's fate is a number of 64 bits
abbrev pub Coded : Goes → Type 0
Coded goes = fate_code (fate_after (goes_of goes)) < 2 ^ 64

-- where a holder of this number of locks goes that gives up the token with count 0
pub record AtZero (held : ℕ) (goes : Goes) : Type 0 where
  pub same : (locks : List ℕ) → Shows held locks → goes_of goes ≡ gives_at_zero (length locks)
  pub coded : Coded goes

-- what becomes of the copies of a holder that commits with count 0
abbrev pub Commits : ℕ → Uncommitted → Type 0
Commits held bytes = (locks : List ℕ) → Shows held locks → uncommitted_of bytes ≡ commits_at_zero (length locks)

-- how many sleepers a step starts: one, if it is a start and its worker sleeps
abbrev pub sleepers_at : List ℕ → ℕ → ℕ
sleepers_at fates w = cond (eqb (get_or fates w 0) code_asleep) 1 0

abbrev pub called_by : ℕ → ℕ → List ℕ → ℕ
called_by op number fates = cond (eqb op op_start) (sleepers_at fates number) 0

-- what holds of those whom a ruling moves, at a step with this number that starts so many sleepers, where these wait
pub record Coherent (number called : ℕ) (waiting fates : List ℕ) (moves : Moves) : Type 0 where
  pub below : Below workers_limit (moved_of moves)
  pub few : length (moved_of moves) ≤ length waiting + called
  -- all who wait at the barrier join the next list
  pub all : (ws : List ℕ) → moves ≡ Joins ws → ws ≡ found fates waiting (barrier_code number)
  -- a sleeper that is started does not wait
  pub away : (w : ℕ) → moves ≡ Starts w → member w waiting ≡ false

-- a ruling of the code is that of the definitions, for a holder of whatever locks the number shows
pub record Means (held : ℕ) (r : Ruling) (rule : List ℕ → rounds.Ruling) : Type 0 where
  pub same : (locks : List ℕ) → Shows held locks → ruling_of r (rule locks).held ≡ rule locks
  pub shown : (locks : List ℕ) → Shows held locks → Shows r.held (rule locks).held
  pub coded : Coded r.goes

-- a ruling of the code is that of a start of this worker, whatever fate it is that its code shows
pub record Started (target held : ℕ) (waiting fates : List ℕ) (r : Ruling) : Type 0 where
  pub same : (f : steps.Fate) → get_or fates target 0 ≡ fate_code f → (locks : List ℕ) → ruling_of r locks ≡ start_rule target f locks
  pub kept : r.held ≡ held
  pub coded : Coded r.goes
  pub sound : Coherent target (sleepers_at fates target) waiting fates r.moves

-- those who wait with this code as their fate, asked for by a barrier of this size: nobody, where all who wait are too few for it
pub record Met (fates waiting : List ℕ) (code size : ℕ) (q : List ℕ) : Type 0 where
  pub early : length waiting + 1 < size → q ≡ []
  pub late : size ≤ length waiting + 1 → q ≡ found fates waiting code

-- a start of this worker, where nobody who waits sleeps
pub record Starting (target : ℕ) (waiting fates : List ℕ) : Type 0 where
  pub named : target < workers_limit
  pub awake : (w : ℕ) → member w waiting ≡ true → eqb (get_or fates w 0) code_asleep ≡ false

-- what a ruling is asked for: of all numbers that a synchronising step may have a lock's are the greatest
pub record Asking (op number holds : ℕ) (waiting fates : List ℕ) : Type 0 where
  pub syncs : synchronises op ≡ true
  pub last : op ≤ op_start
  pub operand : number ≤ lock_limit
  pub barrier : op ≡ op_barrier → number < barrier_count
  pub target : op ≡ op_start → number < workers_limit
  pub held : Held holds
  pub below : Below workers_limit waiting
  -- nobody who waits sleeps
  pub awake : (w : ℕ) → member w waiting ≡ true → eqb (get_or fates w 0) code_asleep ≡ false

-- the rule of the definitions for a holder of these locks, in every plan with these sizes and every state with these queues and fates
abbrev pub RuledBy : ℕ → ℕ → List ℕ → List ℕ → List ℕ → List ℕ → rounds.Ruling → Type 0
RuledBy op number locks sizes waiting fates is =
    (plan : Plan) (queue : QueueName → List ℕ) (fate : ℕ → steps.Fate)
    → plan.locks ≡ by_name
    → (op_signal ≤ op → op ≤ op_broadcast → found fates waiting (condition_code number) ≡ queue (on_condition number))
    → (op ≡ op_barrier → found fates waiting (barrier_code number) ≡ queue (at_barrier number))
    → (op ≡ op_barrier → get_or plan.sizes number 0 ≡ get_or sizes number 0)
    → (op ≡ op_start → get_or fates number 0 ≡ fate_code (fate number))
    → is ≡ rule_of plan queue fate locks (sync_of op number)

-- a ruling of the code is that rule, and leaves the holder with the locks after it
pub record Ruled (op number : ℕ) (locks sizes : List ℕ) (waiting fates : List ℕ) (r : Ruling) : Type 0 where
  pub after : List ℕ
  pub shown : Shows r.held after
  pub same : RuledBy op number locks sizes waiting fates (ruling_of r after)
  pub coded : Coded r.goes
  pub sound : Coherent number (called_by op number fates) waiting fates r.moves
