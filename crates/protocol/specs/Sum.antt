-- Document 02, Three: the sum of the words at even addresses, by how much a commit moves it, and the sum that is kept over a list of turns.
-- The sum is no part of the state: the report's is worked out afresh (`sum_of`), and the kept one is shown to equal it (`Demands.SumKept`).
use Rattle.std.specs.Prelude.{ℕ, suc, ◌+◌, ◌-◌, ◌*◌, ◌%◌, Bool, true, false, cond, List, [], ◌∷◌, eqb}
use Rattle.protocol.specs.Format.{word, Step, own, sync, Sync, Plan}
use Rattle.protocol.specs.Pages as pages
use Rattle.protocol.specs.Pages.{Copies, copy_of, page_of, offset_of}
use Rattle.protocol.specs.Steps.{step_at}
use Rattle.protocol.specs.Rounds.{State, worker_at, queue_of, fate_in, Uncommitted, kept, committed, lost, rule_of}
use Rattle.protocol.specs.Turns.{can, turn}

-- "the sum of all 1,024 words at even addresses": the bytes two by two, from address 0 on
unfoldable pub sum_of : List ℕ → ℕ
sum_of [] = 0
sum_of (low ∷ []) = word low 0
sum_of (low ∷ high ∷ rest) = word low high + sum_of rest

-- "by how much it moved the sum": what is added to it, and what is taken away
pub record Change : Type 0 where
  pub raised : ℕ
  pub lowered : ℕ

abbrev pub no_change : Change
no_change = record { raised = 0; lowered = 0 }

-- a sum that has moved so
abbrev pub moved_by : Change → ℕ → ℕ
moved_by c sum = sum + c.raised - c.lowered

-- a byte's share in its word
abbrev pub weight : ℕ → ℕ
weight address = cond (eqb (address % 2) 0) 1 256

-- A commit leaves a byte in the place of the shared byte that stood there. What this comes to from an address on, each byte with its weight.
unfoldable pub share_from : (ℕ → ℕ → ℕ) → Copies → ℕ → List ℕ → ℕ
share_from change copies a [] = 0
share_from change copies a (shared ∷ rest) =
    weight a * change shared (pages.committed (copy_of copies (page_of a)) (offset_of a) shared) + share_from change copies (suc a) rest

-- "Commit now also promises by how much it moved the sum": bytes may rise and fall
abbrev pub commit_change : Copies → List ℕ → Change
commit_change copies memory =
    record {
      raised = share_from (λ old new. new - old) copies 0 memory;
      lowered = share_from (λ old new. old - new) copies 0 memory;
    }

-- "and every step that commits passes this on": the holder's step, by its rule
abbrev pub settled_change : Uncommitted → Copies → List ℕ → Change
settled_change b copies memory = elim b [ kept ↦ no_change | committed ↦ commit_change copies memory | lost ↦ no_change ]

abbrev pub sync_change : Plan → Sync → ℕ → State → Change
sync_change plan y h s =
    settled_change (rule_of plan (queue_of s) (fate_in s) (worker_at s h).held y).bytes (worker_at s h).copies s.memory

-- own steps and arrivals leave shared memory alone
abbrev pub change_by : Plan → Step → Bool → ℕ → State → Change
change_by plan (own o) here w s = no_change
change_by plan (sync y) false w s = no_change
change_by plan (sync y) true w s = sync_change plan y w s

unfoldable pub move_change : Plan → State → ℕ → Change
move_change plan s w = change_by plan (step_at plan w (worker_at s w).place) (worker_at s w).arrived w s

-- "Keep it true at every commit": the sum as each turn that moves has moved it
unfoldable pub kept_sum : Plan → State → ℕ → List ℕ → ℕ
kept_sum plan s sum [] = sum
kept_sum plan s sum (w ∷ ws) = kept_sum plan (turn plan s w) (cond (can s w) (moved_by (move_change plan s w) sum) sum) ws
