-- The refinement relation: how the engine's values show a state of the definitions.
use Rattle.std.specs.Prelude.{ℕ, ◌+◌, ◌*◌, ◌<◌, false, cond, ◌≡◌, List, [], ◌∷◌, length, get_or, take}
use Rattle.protocol.specs.Format.{workers_limit}
use Rattle.protocol.specs.Rounds.{State, worker_at}
use Rattle.protocol.specs.Turns.{can}
use Rattle.protocol.specs.Sum.{sum_of}
use Rattle.protocol.specs.Report.{entry_length, log_bytes}
use Rattle.protocol.specs.Calls.{log_length}
use Rattle.pages.specs.Copies.{Lent, copies_in, slot_count}
use Rattle.worker.specs.Private.{viewed}
use Rattle.locks.specs.Set.{Shows}
use Rattle.rules.specs.Codes.{fate_code}
use Rattle.engine.specs.declared.state.Schedule.{Schedule}
use Rattle.engine.specs.Kept.{Kept, private_of}

-- how many of a list have not arrived at the fence
unfoldable pub away_in : State → List ℕ → ℕ
away_in s [] = 0
away_in s (w ∷ ws) = cond (worker_at s w).arrived 0 1 + away_in s ws

-- an entry for each of the most workers that a plan may have
pub record Entries (k : Kept) : Type 0 where
  pub places : length k.places ≡ workers_limit
  pub held : length k.held ≡ workers_limit
  pub registers : length k.registers ≡ workers_limit
  pub fates : length k.fates ≡ workers_limit
  pub can : length k.can ≡ workers_limit

-- shared memory, and each worker's record and copies
pub record SameBytes (n : ℕ) (s : State) (k : Kept) : Type 0 where
  pub shared : s.memory ≡ k.memory
  pub worker :
      (w : ℕ)
      → w < n
      → worker_at s w ≡ viewed (private_of k w) (worker_at s w).held (worker_at s w).arrived (copies_in k.copied k.work w) (worker_at s w).fate
  -- the number of a worker's locks shows them
  pub locks : (w : ℕ) → w < n → Shows (get_or k.held w 0) (worker_at s w).held
  pub sizes : Lent k.memory k.work
  pub marks : length k.copied ≡ slot_count

-- the lists, the fates by their codes, and who can move
pub record SameLists (n : ℕ) (s : State) (t : Schedule) (k : Kept) : Type 0 where
  pub list : t.lists.list ≡ s.list
  pub next : t.lists.next ≡ s.next
  pub waiting : t.lists.waiting ≡ s.waiting
  pub away : t.away ≡ away_in s s.list
  pub fates : (w : ℕ) → w < n → get_or k.fates w 0 ≡ fate_code (worker_at s w).fate
  pub able : (w : ℕ) → w < workers_limit → get_or k.can w false ≡ can s w

-- the log's records
pub record SameLog (s : State) (records : ℕ) (log : List ℕ) : Type 0 where
  pub count : length s.log ≡ records
  pub bytes : take (entry_length * records) log ≡ log_bytes s.log
  pub size : length log ≡ log_length

-- the values show the state s of a plan with n workers
pub record Refines (n : ℕ) (s : State) (t : Schedule) (k : Kept) : Type 0 where
  pub entries : Entries k
  pub bytes : SameBytes n s k
  pub lists : SameLists n s t k
  pub log : SameLog s t.counts.records k.log
  pub moves : s.moves ≡ t.counts.moves
  pub rounds : s.rounds ≡ t.counts.rounds
  -- the sum that is kept is the sum afresh
  pub sum : t.sum ≡ sum_of s.memory
