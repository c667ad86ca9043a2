-- Any two machines that take the same turns, and a relation between their states: where each move keeps it, so does every list of turns.
-- What may go wrong on the way is one property of the first machine's states, which a move never mends. There is no plan in this file.
-- Assumes nothing.
use Prim.Native.Nat.{ℕ}
use mathlib.Core.Bool.{Bool, true, false, cond}
use mathlib.Core.Path.{◌≡◌, refl, sym, ◌∙◌}
use mathlib.Core.List.{List, [], ◌∷◌}
use Rattle.protocol.proofs.Confluence.{Machine, turn, play}
use Rattle.protocol.proofs.Counting.{clash}

pub record SideBySide {S T E F : Type 0} (m : Machine S E) (n : Machine T F) (Tied : S → T → Type 0) (Fine : S → Type 0) : Type 0 where
  pub able : (s : S) (t : T) (w : ℕ) → Tied s t → n.can t w ≡ m.can s w
  pub moved : (s : S) (t : T) (w : ℕ) → Tied s t → m.can s w ≡ true → Fine (m.move s w) → Tied (m.move s w) (n.move t w)
  pub before : (s : S) (w : ℕ) → m.can s w ≡ true → Fine (m.move s w) → Fine s

module _ {S T E F : Type 0} {m : Machine S E} {n : Machine T F} {Tied : S → T → Type 0} {Fine : S → Type 0} (laws : SideBySide m n Tied Fine) where
  -- what is fine in the end was fine all along
  all-along : (s : S) (ts : List ℕ) → Fine (play m s ts) → Fine s
  unfolding play
  all-along s [] f = f
  all-along s (w ∷ ws) f = go (m.can s w) refl (all-along (turn m s w) ws f)
    where
      go : (b : Bool) → m.can s w ≡ b → Fine (cond b (m.move s w) s) → Fine s
      go true c f = laws.before s w c f
      go false c f = f

  tied-turn : (s : S) (t : T) (w : ℕ) → Tied s t → Fine (turn m s w) → Tied (turn m s w) (turn n t w)
  tied-turn s t w r = go (m.can s w) refl (n.can t w) refl
    where
      go : (b : Bool) → m.can s w ≡ b → (d : Bool) → n.can t w ≡ d → Fine (cond b (m.move s w) s)
          → Tied (cond b (m.move s w) s) (cond d (n.move t w) t)
      go true c true d f = laws.moved s t w r c f
      go true c false d f = clash (sym d ∙ laws.able s t w r ∙ c)
      go false c true d f = clash (sym c ∙ sym (laws.able s t w r) ∙ d)
      go false c false d f = r

  pub side_by_side : (s : S) (t : T) (ts : List ℕ) → Tied s t → Fine (play m s ts) → Tied (play m s ts) (play n t ts)
  unfolding play
  side_by_side s t [] r f = r
  side_by_side s t (w ∷ ws) r f =
      side_by_side (turn m s w) (turn n t w) ws (tied-turn s t w r (all-along (turn m s w) ws f)) f
