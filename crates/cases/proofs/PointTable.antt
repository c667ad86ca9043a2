-- Document 02, Six: a plan for each op of the table.
use Prim.Native.Nat.{ℕ}
use mathlib.Core.List.{List, [], ◌∷◌, ◌++◌}
use Rattle.protocol.proofs.Table.{thrice, Case, rec, plan_rec, report, small, both, case}

-- Six: worker 0 has this step and then an exit, the other worker none. Of three turns of worker 0 a step of its own moves, and its arrival at
-- the exit; a step that synchronises is its arrival, and no turn behind it moves. Address 0 holds 5, and nothing is committed.
abbrev point : ℕ → ℕ → ℕ → ℕ → Case
point op register number moves =
    case (plan_rec 2 ++ rec 0 1 0 2 ++ rec 0 op register number ++ rec 0 38 0 0) (5 ∷ []) thrice (5 ∷ []) []
    (report 0 2 moves 0 0 (both 0 0) (small 5))

-- "one for each op", in the order of the table
unfoldable pub points : List Case
points =
    point 16 0 7 2
    ∷ point 17 0 0 2
    ∷ point 18 0 0 2
    ∷ point 19 0 1 2
    ∷ point 20 0 1 2
    ∷ point 21 0 1 2
    ∷ point 22 0 1 2
    ∷ point 32 0 0 1
    ∷ point 33 0 0 1
    ∷ point 34 0 0 1
    ∷ point 35 0 0 1
    ∷ point 36 0 0 1
    ∷ point 37 0 0 1
    ∷ point 38 0 0 1
    ∷ point 39 0 1 1
    ∷ []
