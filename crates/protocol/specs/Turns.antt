-- Document 01, "Turns", and document 02, One: who can move, what one move does, and a list of turns.
use Rattle.std.specs.Prelude.{ℕ, ◌+◌, Bool, true, false, cond, not, ◌&&◌, ◌||◌, List, [], ◌∷◌, map, eqb, length}
use Rattle.protocol.specs.Format.{Step, own, sync, Plan, up_to}
use Rattle.protocol.specs.Steps.{Fate, going, asleep, Worker, new_worker, fate_as, step_at}
use Rattle.protocol.specs.Rounds.{State, worker_at, keep, own_move, arrival, sync_move, new_round, member}

abbrev pub workers_of : Plan → ℕ
workers_of plan = length plan.steps

-- One: "A sleeper has fate 5 and is in no list."
abbrev pub sleeps : Plan → ℕ → Bool
sleeps plan w = member w plan.sleepers

abbrev pub first_fate : Bool → Fate
first_fate true = asleep
first_fate false = going

abbrev pub first_worker : Plan → ℕ → Worker
first_worker plan w = fate_as (first_fate (sleeps plan w)) new_worker

-- "The first turn finds the start of round 1, with the lent memory as shared memory." "Round 1 has the list 0, 1, .. n−1", the sleepers left out.
unfoldable pub start : Plan → List ℕ → State
start plan memory =
    record {
      memory = memory;
      workers = map (λ w. first_worker plan w) (up_to (workers_of plan));
      list = keep (λ w. not (sleeps plan w)) (up_to (workers_of plan));
      next = [];
      waiting = [];
      log = [];
      moves = 0;
      rounds = 0;
    }

-- "When all have arrived, the first in the list holds the token."
unfoldable pub all_arrived : State → List ℕ → Bool
all_arrived s [] = true
all_arrived s (w ∷ ws) = (worker_at s w).arrived && all_arrived s ws

abbrev pub is_first : ℕ → List ℕ → Bool
is_first w [] = false
is_first w (v ∷ vs) = eqb w v

-- "All workers in the list run" up to the fence. "Only the holder moves" behind it.
unfoldable pub can : State → ℕ → Bool
can s w =
    member w s.list && (not (worker_at s w).arrived || (all_arrived s s.list && is_first w s.list))

abbrev pub behind : List ℕ → List ℕ
behind [] = []
behind (w ∷ ws) = ws

-- the move that empties the list also closes the round
abbrev pub closing : List ℕ → State → State
closing [] s = new_round s
closing (w ∷ ws) s = s

abbrev pub closed : State → State
closed s = closing s.list s

-- "at most one move: one step, the end (as op 38) being one of its own, or one arrival"
abbrev pub move_by : Plan → Step → Bool → ℕ → State → State
move_by plan (own o) here w s = own_move o w s
move_by plan (sync y) false w s = arrival w s
move_by plan (sync y) true w s = closed (sync_move plan y w (behind s.list) s)

unfoldable pub move : Plan → State → ℕ → State
move plan s w = move_by plan (step_at plan w (worker_at s w).place) (worker_at s w).arrived w s

-- "A worker that can't move lets the turn pass, uncounted."
unfoldable pub turn : Plan → State → ℕ → State
turn plan s w = cond (can s w) (move plan s w) s

-- "Each later turn finds what the one before it left"
unfoldable pub play : Plan → State → List ℕ → State
play plan s [] = s
play plan s (w ∷ ws) = play plan (turn plan s w) ws

-- "Moving turns .. are the turns of the list that made a move."
unfoldable pub moving_turns : Plan → State → List ℕ → ℕ
moving_turns plan s [] = 0
moving_turns plan s (w ∷ ws) = cond (can s w) 1 0 + moving_turns plan (turn plan s w) ws

-- "If that is empty too, the plan has ended"
abbrev pub none_left : List ℕ → Bool
none_left [] = true
none_left (w ∷ ws) = false

abbrev pub ended : State → Bool
ended s = none_left s.list
