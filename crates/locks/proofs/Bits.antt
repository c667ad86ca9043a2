-- A mark added to a number: what becomes of its binary digits, and of what stands above them. For an arbitrary place.
-- Assumes nothing.
use Prim.Native.Nat.{ℕ, zero, suc, ◌+◌, ◌/◌, ◌%◌, ◌^◌, ◌<◌}
use native.Mathlib.Nat.{pow-succ', div-div-eq-div-mul}
use native.Mathlib.Decide.{dec_lt}
use native.Mathlib.Omega.{arith}
use mathlib.Core.Path.{◌≡◌, sym, ap, ◌∙◌}

-- a digit further up is a digit of the half
pub halved : (n j : ℕ) → n / 2 ^ suc j ≡ n / 2 / 2 ^ j
halved n j = ap (λ (x : ℕ). n / x) (pow-succ' 2 j) ∙ sym (div-div-eq-div-mul n 2 (2 ^ j))

half-more : (n k : ℕ) → (n + 2 ^ suc k) / 2 ≡ n / 2 + 2 ^ k
half-more n k = omega (arith, pow-succ' 2 k)

-- at its own place
pub here-more : (k n : ℕ) → (n + 2 ^ k) / 2 ^ k ≡ n / 2 ^ k + 1
here-more zero n = omega arith
here-more (suc k) n = rw (halved (n + 2 ^ suc k) k, halved n k, half-more n k) (here-more k (n / 2))

-- below it
pub below-same : (k j n : ℕ) → j < k → (n + 2 ^ k) / 2 ^ j % 2 ≡ n / 2 ^ j % 2
below-same zero j n h = absurd (omega arith)
below-same (suc k) zero n h = omega (arith, pow-succ' 2 k)
below-same (suc k) (suc j) n h = rw (halved (n + 2 ^ suc k) j, halved n j, half-more n k) (below-same k j (n / 2) (omega arith))

-- above it, where there was none
pub above_same : (k j n : ℕ) → k < j → n / 2 ^ k % 2 ≡ 0 → (n + 2 ^ k) / 2 ^ j ≡ n / 2 ^ j
above_same k zero n h e = absurd (omega arith)
above_same zero (suc j) n h e =
    let even : (n + 2 ^ 0) / 2 ≡ n / 2 = omega arith in
    rw (halved (n + 2 ^ 0) j, halved n j, even)
above_same (suc k) (suc j) n h e =
    rw (halved (n + 2 ^ suc k) j, halved n j, half-more n k) (above_same k j (n / 2) (omega arith) (rw (halved n k) at e))

-- at any other place
pub other-same : (k j n : ℕ) → (j ≡ k → ⊥) → n / 2 ^ k % 2 ≡ 0 → (n + 2 ^ k) / 2 ^ j % 2 ≡ n / 2 ^ j % 2
other-same k j n ne e = elim (dec_lt j k) [
  | yes l ↦ below-same k j n l
  | no l ↦ ap (λ (x : ℕ). x % 2) (above_same k j n (omega arith) e)
]
