-- A record's round has begun when the record is logged. So it fits the two bytes that the log has for it.
use Prim.Native.Nat.{ℕ, ◌+◌, ◌≤◌}
use native.Mathlib.Omega.{arith}
use mathlib.Core.Bool.{Bool, true, false, cond}
use mathlib.Core.List.{List, [], ◌∷◌, ◌++◌}
use Rattle.protocol.specs.Format.{Step, own, sync, Plan}
use Rattle.protocol.specs.Steps.{step_at}
use Rattle.protocol.specs.Rounds.{Entry, State, worker_at, apply, sync_move, new_round}
use Rattle.protocol.specs.Turns.{start, can, behind, closing, closed, move_by, move, turn, play}
use Rattle.protocol.specs.Calls.{played_from}
use Rattle.protocol.proofs.Sound.{Sound}
use Rattle.protocol.proofs.Bounds.{Bounded, played-bounded}

-- no round of these records is above k
pub data Within (k : ℕ) : List Entry → Type 0 where
  none : Within k []
  more : (e : Entry) {es : List Entry} → e.round ≤ k → Within k es → Within k (e ∷ es)

wider : {k m : ℕ} {es : List Entry} → k ≤ m → Within k es → Within m es
wider h none = none
wider h (more e l w) = more e (omega arith) (wider h w)

one_more : {k : ℕ} {es : List Entry} (e : Entry) → Within k es → e.round ≤ k → Within k (es ++ (e ∷ []))
one_more e none h = more e h none
one_more e (more x l w) h = more x l (one_more e w h)

abbrev Begun : State → Type 0
Begun s = Within (s.rounds + 1) s.log

closed-begun : (s : State) → Begun s → Begun (closed s)
unfolding new_round
closed-begun s b = go s.list
  where
    go : (ws : List ℕ) → Begun (closing ws s)
    go [] = wider (omega arith) b
    go (w ∷ ws) = b

move-begun : (plan : Plan) (s : State) (w : ℕ) → Begun s → Begun (move plan s w)
unfolding move apply
move-begun plan s w b = go (step_at plan w (worker_at s w).place) (worker_at s w).arrived
  where
    go : (t : Step) (a : Bool) → Begun (move_by plan t a w s)
    go (own o) a = b
    go (sync y) false = b
    go (sync y) true = closed-begun (sync_move plan y w (behind s.list) s) (one_more _ b (omega arith))

play-begun : (plan : Plan) (s : State) (turns : List ℕ) → Begun s → Begun (play plan s turns)
unfolding play turn
play-begun plan s [] b = b
play-begun plan s (w ∷ ws) b = play-begun plan (turn plan s w) ws (go (can s w))
  where
    go : (c : Bool) → Begun (cond c (move plan s w) s)
    go true = move-begun plan s w b
    go false = b

-- within a sound plan no round is above its moves
pub played-rounds : (plan : Plan) → Sound plan → (memory turns : List ℕ) → Within 2065 (played_from plan memory turns).log
unfolding start
played-rounds plan sound memory turns =
    let b : Bounded plan (played_from plan memory turns) = played-bounded plan sound memory turns in
    wider (omega (arith, b.rounds, b.moves_fit)) (play-begun plan (start plan memory) turns none)
