-- Going by cases over a short range: what holds of each number of it, in turn, holds of any. Assumes nothing.
use Prim.Native.Nat.{ℕ, zero, suc, ◌+◌, ◌≤◌}
use native.Mathlib.Nat.{eq-or-lt_of_le}
use native.Mathlib.Omega.{arith}
use mathlib.Core.Logic.{⊎_elim}
use mathlib.Core.Path.{◌≡◌, subst}

-- R, from what holds of n and the k numbers behind it
abbrev From : (ℕ → Type 0) → ℕ → ℕ → Type 0 → Type 0
From P n zero R = P n → R
From P n (suc k) R = P n → From P (suc n) k R

go : (P : ℕ → Type 0) (n k : ℕ) {R : Type 0} → (((m : ℕ) → n ≤ m → m ≤ n + k → P m) → R) → From P n k R
go P n zero then = λ p. then λ m least most. let e : n ≡ m = omega arith in subst P e p
go P n (suc k) then =
    λ p. go P (suc n) k λ above. then λ m least most.
    ⊎_elim (λ e. subst P e p) (λ h. above m (omega arith) (omega arith)) (eq-or-lt_of_le least)

pub each : (P : ℕ → Type 0) (n k : ℕ) → From P n k ((m : ℕ) → n ≤ m → m ≤ n + k → P m)
each P n k = go P n k (λ all. all)
