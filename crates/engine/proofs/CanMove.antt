-- Who can move, by the definitions, and the marks of those who can.
use Prim.Native.Nat.{ℕ, ◌+◌, ◌<◌}
use native.Mathlib.Decide.{ℕ_discrete}
use native.Mathlib.Nat.{zero-add}
use native.Mathlib.Omega.{arith}
use mathlib.Core.Bool.{Bool, true, false, cond, not, ◌&&◌, ◌||◌}
use mathlib.Core.Path.{◌≡◌, refl, sym, ap, ◌∙◌}
use mathlib.Core.List.{List, [], ◌∷◌}
use lib.Dec.{eqb}
use lib.ListN.{length, get_or, set, length-set}
use lib.Seq.{get_or-set_same, get_or-set_other}
use borrow.Author.Tests.{eq-eqb, ne_eqb, eqb-true}
use Rattle.protocol.specs.Rounds.{State, worker_at, member}
use Rattle.protocol.specs.Turns.{all_arrived, is_first, can}
use Rattle.protocol.proofs.Bools.{or-holds}
use Rattle.protocol.proofs.Counting.{clash}
use Rattle.protocol.proofs.Fence.{all-arrived}
use Rattle.queue.proofs.Walk.{length-all}
use Rattle.token.specs.Token.{raised}
use Rattle.engine.specs.Refines.{away_in}

pub cond-false : (b : Bool) {c : Bool} → c ≡ false → cond b true c ≡ b
cond-false true e = refl
cond-false false e = e

-- who can move

pub all-away : (s : State) (ws : List ℕ) → all_arrived s ws ≡ eqb (away_in s ws) 0
unfolding all_arrived away_in
all-away s [] = refl
all-away s (w ∷ ws) = go (worker_at s w).arrived (all-away s ws)
  where
    go : (b : Bool) → all_arrived s ws ≡ eqb (away_in s ws) 0 → (b && all_arrived s ws) ≡ eqb (cond b 0 1 + away_in s ws) 0
    go true h = rw zero-add h
    go false h = sym (ne_eqb (1 + away_in s ws) 0 (λ e. omega arith))

pub none-away : (s : State) (ws : List ℕ) → all_arrived s ws ≡ true → away_in s ws ≡ 0
none-away s ws e = eqb-true (away_in s ws) 0 (sym (all-away s ws) ∙ e)

-- whoever is first is in the list
first_member : (u : ℕ) (ws : List ℕ) → is_first u ws ≡ true → member u ws ≡ true
unfolding member
first_member u [] e = e
first_member u (w ∷ ws) e = rw e

-- "When all have arrived, the first in the list holds the token."
pub can-token : (s : State) (u : ℕ) → all_arrived s s.list ≡ true → can s u ≡ is_first u s.list
unfolding can
can-token s u all =
    ap (λ (b : Bool). member u s.list && (not (worker_at s u).arrived || (b && is_first u s.list))) all
    ∙ go (member u s.list) refl (is_first u s.list) refl (worker_at s u).arrived refl
  where
    go : (m : Bool) → member u s.list ≡ m → (f : Bool) → is_first u s.list ≡ f → (a : Bool) → (worker_at s u).arrived ≡ a
        → (m && (not a || (true && f))) ≡ f
    go false m false f a q = refl
    go false m true f a q = clash (sym m ∙ first_member u s.list f)
    go true m false f true q = refl
    go true m false f false q = clash (sym q ∙ all-arrived s u s.list all m)
    go true m true f true q = refl
    go true m true f false q = refl

-- before that, those run who have not arrived
pub can-late : (s : State) (u : ℕ) → all_arrived s s.list ≡ false → can s u ≡ member u s.list && not (worker_at s u).arrived
unfolding can
can-late s u some =
    ap (λ (b : Bool). member u s.list && (not (worker_at s u).arrived || (b && is_first u s.list))) some
    ∙ go (member u s.list) (worker_at s u).arrived
  where
    go : (m a : Bool) → (m && (not a || false)) ≡ m && not a
    go false a = refl
    go true true = refl
    go true false = refl

-- nobody has arrived: all of the list can move
pub can-fence : (s : State) (u : ℕ) → ((w : ℕ) → member w s.list ≡ true → (worker_at s w).arrived ≡ false) → can s u ≡ member u s.list
unfolding can
can-fence s u f = go (member u s.list) refl
  where
    go : (m : Bool) → member u s.list ≡ m → (m && (not (worker_at s u).arrived || (all_arrived s s.list && is_first u s.list))) ≡ m
    go false e = refl
    go true e = rw (f u e)

-- nobody has arrived: all are away
pub away-all : (s : State) (ws : List ℕ) → ((w : ℕ) → member w ws ≡ true → (worker_at s w).arrived ≡ false) → away_in s ws ≡ length ws
unfolding away_in member
away-all s [] f = refl
away-all s (w ∷ ws) f =
    rw (f w (rw (eq-eqb w w refl))) (omega (arith, away-all s ws (λ u m. f u (or-holds (eqb u w) m))))

-- The list and the arrivals decide.
module _ (s s' : State) (same : (w : ℕ) → (worker_at s' w).arrived ≡ (worker_at s w).arrived) where
  pub away-same : (ws : List ℕ) → away_in s' ws ≡ away_in s ws
  unfolding away_in
  away-same [] = refl
  away-same (w ∷ ws) = rw (same w, away-same ws)

  pub all_same : (ws : List ℕ) → all_arrived s' ws ≡ all_arrived s ws
  all_same ws = all-away s' ws ∙ ap (λ (k : ℕ). eqb k 0) (away-same ws) ∙ sym (all-away s ws)

  pub can-same : s'.list ≡ s.list → (u : ℕ) → can s' u ≡ can s u
  unfolding can
  can-same e u =
      ap (λ (ws : List ℕ). member u ws && (not (worker_at s' u).arrived || (all_arrived s' ws && is_first u ws))) e
      ∙ rw (same u, all_same s.list)

-- marks

pub mark_set : (m : List Bool) (w u : ℕ) (b : Bool) → u < length m → get_or (set m w b) u false ≡ cond (eqb u w) b (get_or m u false)
mark_set m w u b l = go (ℕ_discrete u w)
  where
    go : Dec (u ≡ w) → get_or (set m w b) u false ≡ cond (eqb u w) b (get_or m u false)
    go (yes e) = rw (e, eq-eqb w w refl) (get_or-set_same m w b false (rw (← e) l))
    go (no ne) = rw (ne_eqb u w ne) (get_or-set_other m w u b false ne)

pub raised-length : (ws : List ℕ) (m : List Bool) → length (raised ws m) ≡ length m
unfolding raised
raised-length ws m = length-all true ws m

pub raised_at : (ws : List ℕ) (m : List Bool) (u : ℕ) → u < length m → get_or (raised ws m) u false ≡ member u ws || get_or m u false
unfolding raised member
raised_at [] m u l = refl
raised_at (w ∷ ws) m u l =
    raised_at ws (set m w true) u (rw length-set l) ∙ ap (λ (b : Bool). member u ws || b) (mark_set m w u true l) ∙ go (eqb u w) (member u ws)
  where
    go : (b c : Bool) → (c || cond b true (get_or m u false)) ≡ (b || c) || get_or m u false
    go true true = refl
    go true false = refl
    go false true = refl
    go false false = refl
