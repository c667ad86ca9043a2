-- Keeping those of a list that pass a test: how many, and one more at the end.
-- Assumes nothing.
use Prim.Native.Nat.{ℕ, ◌+◌, ◌≤◌}
use native.Mathlib.Omega.{arith}
use mathlib.Core.Bool.{Bool, true, false, cond, not, beq}
use mathlib.Core.Path.{◌≡◌, refl, ap}
use mathlib.Core.List.{List, [], ◌∷◌, ◌++◌, append_assoc}
use lib.ListN.{length, length-append}
use Rattle.protocol.specs.Format.{up_to}
use Rattle.protocol.specs.Rounds.{keep}
use Rattle.protocol.specs.Turns.{none_left}
use Rattle.protocol.proofs.Lists.{length-count_from, up-to-more}

-- keeping makes no list longer
pub length-keep : (t : ℕ → Bool) (ws : List ℕ) → length (keep t ws) ≤ length ws
unfolding keep
length-keep t [] = omega arith
length-keep t (w ∷ ws) = go (t w) (length-keep t ws)
  where
    go : (b : Bool) → length (keep t ws) ≤ length ws → length (cond b (w ∷ keep t ws) (keep t ws)) ≤ length (w ∷ ws)
    go true h = omega arith
    go false h = omega arith

keep-more : (t : ℕ → Bool) (ws : List ℕ) (v : ℕ) → keep t (ws ++ (v ∷ [])) ≡ keep t ws ++ cond (t v) (v ∷ []) []
unfolding keep
keep-more t [] v = refl
keep-more t (w ∷ ws) v = go (t w) (keep-more t ws v)
  where
    go : (b : Bool) → keep t (ws ++ (v ∷ [])) ≡ keep t ws ++ cond (t v) (v ∷ []) []
        → cond b (w ∷ keep t (ws ++ (v ∷ []))) (keep t (ws ++ (v ∷ []))) ≡ cond b (w ∷ keep t ws) (keep t ws) ++ cond (t v) (v ∷ []) []
    go true e = ap (λ (us : List ℕ). w ∷ us) e
    go false e = e

-- where nobody is left, nobody passes
pub none_left_over : (t : ℕ → Bool) (ws : List ℕ) → none_left ws ≡ true → keep t ws ≡ []
unfolding keep
none_left_over t [] e = refl
none_left_over t (w ∷ ws) e = cc

-- a test or its opposite, by which of the two is wanted
pub beq-cond : (b wanted : Bool) → beq b wanted ≡ cond wanted b (not b)
beq-cond true true = refl
beq-cond true false = refl
beq-cond false true = refl
beq-cond false false = refl

-- of the workers counted off
pub length-picked : (t : ℕ → Bool) (n : ℕ) → length (keep t (up_to n)) ≤ n
length-picked t n = omega (arith, length-keep t (up_to n), length-count_from n 0)

pub picked-more : (t : ℕ → Bool) (n : ℕ) → keep t (up_to (n + 1)) ≡ keep t (up_to n) ++ cond (t n) (n ∷ []) []
picked-more t n = rw (up-to-more n, keep-more t (up_to n) n)

-- from one list to the other
pub length-moved : (kept : List ℕ) {left after : List ℕ} {w : ℕ} → left ≡ w ∷ after → length (kept ++ (w ∷ [])) + length after ≡ length kept + length left
length-moved kept {w = w} next = omega (arith, ap length next, length-append kept (w ∷ []))

-- a turn of a scan, which takes the worker w off those left: it joins those kept if it passes
module _ (t : ℕ → Bool) (all kept : List ℕ) {left after : List ℕ} {w : ℕ} (next : left ≡ w ∷ after) (before : kept ++ keep t left ≡ keep t all) where
  pub scan-keep : true ≡ t w → (kept ++ (w ∷ [])) ++ keep t after ≡ keep t all
  unfolding keep
  scan-keep e = rw append_assoc (rw (next, ← e) at before)

  pub scan-pass : false ≡ t w → kept ++ keep t after ≡ keep t all
  unfolding keep
  scan-pass e = rw (next, ← e) at before
