-- Document 01, "The round-by-round run": fed a plan and a memory, and no turns.
-- It shares with "Turns" the worker's own step, the rules and the start, and never mentions a turn.
use Rattle.std.specs.Prelude.{ℕ, zero, suc, ◌+◌, ◌*◌, List, [], ◌∷◌, length}
use Rattle.protocol.specs.Format.{Step, own, sync, Plan}
use Rattle.protocol.specs.Steps.{step_at}
use Rattle.protocol.specs.Rounds.{State, worker_at, own_move, arrival, sync_move, new_round}
use Rattle.protocol.specs.Turns.{workers_of, start}

unfoldable pub total : List (List Step) → ℕ
total [] = 0
total (ss ∷ rest) = length ss + total rest

-- "Steps, in the limit on turns, are the step records of the file."
abbrev pub step_count : Plan → ℕ
step_count plan = total plan.steps

-- "2 × (steps + workers)": no run makes more moves, so it bounds each loop below
abbrev pub move_limit : Plan → ℕ
move_limit plan = 2 * (step_count plan + workers_of plan)

-- where a worker stands
abbrev pub step_now : Plan → State → ℕ → Step
step_now plan s w = step_at plan w (worker_at s w).place

-- "each worker runs up to its next synchronising step or its end .. Each step is a move, and so is the arrival."
unfoldable pub run_up : ℕ → Plan → ℕ → State → State
run_up zero plan w s = s
run_up (suc k) plan w s = elim (step_now plan s w) [ own o ↦ run_up k plan w (own_move o w s) | sync y ↦ arrival w s ]

-- "Fence: in list order"
unfoldable pub fence : ℕ → Plan → List ℕ → State → State
fence k plan [] s = s
fence k plan (w ∷ ws) s = fence k plan ws (run_up k plan w s)

abbrev pub holder_step : Plan → Step → ℕ → List ℕ → State → State
holder_step plan (own o) h rest s = own_move o h s
holder_step plan (sync y) h rest s = sync_move plan y h rest s

-- "Token: the first in the list goes on from where it stands .. step by step by the rules of Rounds and with no arrival, until it gives up
-- the token, leaves or fails. Then it is out of this list and the next one in it does the same."
unfoldable pub token : ℕ → Plan → State → State
token zero plan s = s
token (suc k) plan s = elim s.list [ [] ↦ s | h ∷ rest ↦ token k plan (holder_step plan (step_now plan s h) h rest s) ]

-- "List empty: one round more is completed. The next list becomes the list"
abbrev pub one_round : Plan → State → State
one_round plan s = new_round (token (move_limit plan) plan (fence (move_limit plan) plan s.list s))

-- ".. and Fence comes again; if it is empty too, the run has ended."
unfoldable pub rounds_from : ℕ → Plan → State → State
rounds_from zero plan s = s
rounds_from (suc k) plan s = elim s.list [ [] ↦ s | w ∷ ws ↦ rounds_from k plan (one_round plan s) ]

-- "It starts with round 1's list and the starting memory as shared memory, all else zero or empty."
abbrev pub round_run : Plan → List ℕ → State
round_run plan memory = rounds_from (move_limit plan) plan (start plan memory)
