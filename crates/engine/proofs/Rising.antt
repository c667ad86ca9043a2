-- The moves that are counted rise: no turn takes one back, and a turn that moves adds one.
use Prim.Native.Nat.{ℕ, ◌<◌, ◌≤◌}
use native.Mathlib.Omega.{arith}
use mathlib.Core.Bool.{Bool, true, false, cond}
use mathlib.Core.Path.{◌≡◌, ap}
use mathlib.Core.List.{List, [], ◌∷◌}
use Rattle.protocol.specs.Format.{Plan}
use Rattle.protocol.specs.Rounds.{State}
use Rattle.protocol.specs.Turns.{can, move, turn, play}
use Rattle.protocol.proofs.Laws.{counts}

pub play-keeps : (plan : Plan) (s : State) (turns : List ℕ) → s.moves ≤ (play plan s turns).moves
unfolding play turn
play-keeps plan s [] = omega arith
play-keeps plan s (w ∷ ws) = omega (arith, play-keeps plan (turn plan s w) ws, go (can s w))
  where
    go : (b : Bool) → s.moves ≤ (cond b (move plan s w) s).moves
    go true = omega (arith, counts plan s w)
    go false = omega arith

pub play-adds : (plan : Plan) (s : State) (w : ℕ) (turns : List ℕ) → can s w ≡ true → s.moves < (play plan s (w ∷ turns)).moves
unfolding play turn
play-adds plan s w turns e =
    omega (arith, play-keeps plan (turn plan s w) turns, counts plan s w, ap (λ (b : Bool). (cond b (move plan s w) s).moves) e)
