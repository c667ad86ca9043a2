-- The laws of the three lists.
-- Assumes nothing.
use Prim.Native.Nat.{ℕ, ◌<◌}
use mathlib.Core.Bool.{Bool, true, false, not}
use borrow.Author.Tests.{ne_eqb}
use mathlib.Core.Path.{◌≡◌, refl, ap, sym, ◌∙◌}
use mathlib.Core.List.{List, [], ◌∷◌}
use Rattle.protocol.specs.Rounds.{member, keep, without}
use Rattle.protocol.proofs.Counting.{clash}
use Rattle.queue.specs.List.{Below}
use Rattle.queue.proofs.Laws.{member-first, member-one}
use Rattle.rules.specs.declared.ruling.Moves.{Moves}
use Rattle.rules.specs.declared.ruling.Moves.TheVariants.{Wakes, Starts}
use Rattle.rules.specs.Rules.{moved_of}
use Rattle.rules.proofs.Found.{keep_same, member-keep}

pub keep_all : (ws : List ℕ) → without [] ws ≡ ws
unfolding keep member
keep_all [] = refl
keep_all (w ∷ ws) = ap (λ (vs : List ℕ). w ∷ vs) (keep_all ws)

-- without those who pass a test: those who do not
pub without-kept : (t : ℕ → Bool) (ws : List ℕ) → without (keep t ws) ws ≡ keep (λ w. not (t w)) ws
without-kept t ws = keep_same (λ w. not (member w (keep t ws))) (λ w. not (t w)) ws (λ w m. rw (member-keep, m))

-- without one who is not among them
pub without-other : (w : ℕ) (ws : List ℕ) → member w ws ≡ false → without (w ∷ []) ws ≡ ws
unfolding member
without-other w ws n =
    keep_same (λ v. not (member v (w ∷ []))) (λ v. not (member v [])) ws (λ v m. ap not (member-one v w ∙ ne_eqb v w (apart v m)))
    ∙ keep_all ws
  where
    apart : (v : ℕ) → member v ws ≡ true → (v ≡ w → ⊥)
    apart v m e = clash (sym n ∙ (ap (λ (k : ℕ). member k ws) (sym e) ∙ m))

-- one whom a ruling moves
module _ {n w : ℕ} {moves : Moves} where
  pub woken-moved : moves ≡ Wakes w → Below n (moved_of moves) → w < n
  woken-moved e b = (rw e at b) w (member-first w [])

  pub started-moved : moves ≡ Starts w → Below n (moved_of moves) → w < n
  started-moved e b = (rw e at b) w (member-first w [])
