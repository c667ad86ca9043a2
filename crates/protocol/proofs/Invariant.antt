-- What holds of every state that a list of turns reaches, and the measure that falls with each move.
use Prim.Native.Nat.{ℕ, suc, ◌+◌, ◌-◌, ◌*◌, ◌<◌, ◌≤◌}
use mathlib.Core.Bool.{Bool, true, false}
use mathlib.Core.Path.{◌≡◌}
use mathlib.Core.List.{List, [], ◌∷◌}
use lib.ListN.{length}
use Rattle.protocol.specs.Format.{Plan}
use Rattle.protocol.specs.Steps.{Fate, going, exited, failed, asleep, waiting, Worker, steps_of}
use Rattle.protocol.specs.Rounds.{State, worker_at, has_arrived}
use Rattle.protocol.specs.Turns.{workers_of}
use Rattle.protocol.specs.RoundRun.{move_limit}
use Rattle.protocol.specs.Demands.{occurs}

-- a sum over the workers, each with its number
unfoldable pub sum_of : (ℕ → Worker → ℕ) → List Worker → ℕ
sum_of f [] = 0
sum_of f (v ∷ vs) = f 0 v + sum_of (λ w. f (suc w)) vs

-- one of four numbers: for a worker that runs, for one that waits, for one that sleeps, for one that has left
abbrev by_fate : ℕ → ℕ → ℕ → ℕ → Fate → ℕ
by_fate run wait sleep left going = run
by_fate run wait sleep left exited = left
by_fate run wait sleep left failed = left
by_fate run wait sleep left asleep = sleep
by_fate run wait sleep left (waiting q) = wait

-- 1 for a worker that runs, for one that waits, for one that sleeps, for one that has left
abbrev pub runs : Fate → ℕ
runs = by_fate 1 0 0 0

abbrev pub waits : Fate → ℕ
waits = by_fate 0 1 0 0

abbrev pub rests : Fate → ℕ
rests = by_fate 0 0 1 0

abbrev pub gone : Fate → ℕ
gone = by_fate 0 0 0 1

abbrev pub tick : Bool → ℕ
tick true = 1
tick false = 0

abbrev pub lasting : Fate → ℕ → ℕ
lasting f k = by_fate k k k 0 f

-- the moves that a worker with so many steps has left at most: two for each step and for the end, less one if it has arrived
abbrev pub weight : ℕ → Worker → ℕ
weight steps v = lasting v.fate (2 * (steps + 1 - v.place) - tick v.arrived)

abbrev pub weight_in : Plan → ℕ → Worker → ℕ
weight_in plan w v = weight (length (steps_of plan w)) v

abbrev pub place_of : ℕ → Worker → ℕ
place_of w v = v.place

unfoldable pub measure : Plan → State → ℕ
measure plan s = sum_of (weight_in plan) s.workers

-- A worker's own record, with so many steps: the end counts as one more step, and it is behind the worker only once it has left.
pub record Sane (steps : ℕ) (v : Worker) : Type 0 where
  pub within : v.place ≤ steps + gone v.fate
  pub held_place : length v.held ≤ v.place
  pub held_steps : length v.held ≤ steps
  -- whoever does not run has arrived as its fate says
  pub still : runs v.fate ≡ 0 → v.arrived ≡ has_arrived v.fate

-- Where worker w stands, in a plan of n: its fate says how often it occurs.
pub record Stands (n w : ℕ) (list next waiters : List ℕ) (v : Worker) : Type 0 where
  pub inside : w < n → occurs w list + occurs w next ≡ runs v.fate
  pub outside : n ≤ w → occurs w list + occurs w next ≡ 0
  pub queued : occurs w waiters ≡ waits v.fate
  -- whoever is in the next list has its fence before it
  pub fresh : 0 < occurs w next → v.arrived ≡ false

-- Holds between the rules too, before an emptied list closes its round.
pub record Core (plan : Plan) (s : State) : Type 0 where
  pub size : length s.workers ≡ workers_of plan
  pub sane : (w : ℕ) → Sane (length (steps_of plan w)) (worker_at s w)
  pub stands : (w : ℕ) → Stands (workers_of plan) w s.list s.next s.waiting (worker_at s w)
  pub logged : length s.log ≤ sum_of place_of s.workers
  pub spent : s.moves + measure plan s ≤ move_limit plan
  pub rounded : s.rounds ≤ s.moves

pub record Inv (plan : Plan) (s : State) : Type 0 where
  pub core : Core plan s
  -- the move that empties the list closes the round
  pub shut : s.list ≡ [] → s.next ≡ []
