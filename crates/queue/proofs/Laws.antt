-- Lists of workers: the first and the rest, bounds of each.
-- Assumes nothing.
use Prim.Native.Nat.{ℕ, zero, suc, ◌+◌, ◌/◌, ◌%◌, ◌<◌}
use native.Mathlib.Omega.{arith}
use borrow.Author.Tests.{eq-eqb, eqb-true}
use mathlib.Core.Bool.{Bool, true, false, ◌||◌}
use mathlib.Core.Path.{◌≡◌, refl}
use mathlib.Core.List.{List, [], ◌∷◌}
use lib.Dec.{eqb}
use lib.ListN.{length, get_or, drop}
use Rattle.protocol.specs.Rounds.{member}
use Rattle.protocol.specs.Turns.{none_left}
use Rattle.protocol.proofs.Bools.{or-holds}
use Rattle.queue.specs.declared.Queue.TheInside.{Inside}
use Rattle.queue.specs.Digits.{digits_of, list_of}
use Rattle.queue.specs.List.{Below}

pub some_in : (ws : List ℕ) → none_left ws ≡ false → 0 < length ws
some_in [] e = let z : ◌≡◌ {A = ℕ} 0 1 = cc in omega arith
some_in (w ∷ ws) e = omega arith

pub length_rest : (ws : List ℕ) → 0 < length ws → length ws ≡ length (drop 1 ws) + 1
length_rest [] h = absurd (omega arith)
length_rest (w ∷ ws) h = omega arith

pub member-first : (w : ℕ) (ws : List ℕ) → member w (w ∷ ws) ≡ true
unfolding member
member-first w ws = rw (eq-eqb w w refl)

pub member-rest : (v w : ℕ) (ws : List ℕ) → member v ws ≡ true → member v (w ∷ ws) ≡ true
unfolding member
member-rest v w ws m = or-holds (eqb v w) m

pub member-one : (v w : ℕ) → member v (w ∷ []) ≡ eqb v w
unfolding member
member-one v w = go (eqb v w)
  where
    go : (b : Bool) → b || false ≡ b
    go true = refl
    go false = refl

pub below-first : (n : ℕ) (ws : List ℕ) → 0 < length ws → Below n ws → get_or ws 0 0 < n
below-first n [] h b = omega arith
below-first n (w ∷ ws) h b = b w (member-first w ws)

-- every digit of a queue is below 16
small-digits : (n digits : ℕ) → Below 16 (digits_of n digits)
unfolding member
small-digits zero digits w e = let z : ◌≡◌ {A = ℕ} 0 1 = cc in omega arith
small-digits (suc n) digits w e = go (eqb w (digits % 16)) refl (small-digits n (digits / 16) w) e
  where
    go : (b : Bool) {c : Bool} → eqb w (digits % 16) ≡ b → (c ≡ true → w < 16) → b || c ≡ true → w < 16
    go true same later e = omega (arith, eqb-true w (digits % 16) same)
    go false same later e = later e

pub workers-small : (q : Inside) → Below 16 (list_of q)
workers-small q = small-digits q.len q.digits

-- a worker w that is taken off a list
module _ {n w : ℕ} {left after : List ℕ} (taken : left ≡ w ∷ after) (b : Below n left) where
  pub below-next : w < n
  below-next = b w (rw taken (member-first w after))

  pub below-after : Below n after
  below-after = λ v m. b v (rw taken (member-rest v w after m))
