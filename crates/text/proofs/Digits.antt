-- The digits of a number. Callers want `last-digit`, `more-digits` and the lengths.
use Prim.Native.Nat.{ℕ, zero, suc, ◌+◌, ◌/◌, ◌%◌, ◌^◌, ◌<◌, ◌≤◌}
use native.Mathlib.Nat.{pow-suc}
use native.Mathlib.Decide.{dec_lt}
use native.Mathlib.Omega.{arith}
use mathlib.Core.Bool.{cond}
use mathlib.Core.Path.{◌≡◌, ap, ◌∙◌}
use mathlib.Core.List.{List, [], ◌∷◌, ◌++◌}
use lib.Dec.{ltb}
use lib.ListN.{length, length-append}
use borrow.Author.Tests.{lt-ltb, le-ltb}
use Rattle.protocol.specs.Listing.{digits_in, decimal}

-- no number has more digits than it counts
enough : (k j n : ℕ) → n < k → n < j → digits_in k n ≡ digits_in j n
unfolding digits_in
enough zero j n h l = absurd (omega arith)
enough (suc k) zero n h l = absurd (omega arith)
enough (suc k) (suc j) n h l =
    elim (dec_lt n 10) [
      | yes s ↦ rw (lt-ltb n 10 s)
      | no s ↦ ap (λ (ds : List ℕ). cond (ltb n 10) [] ds ++ ((48 + n % 10) ∷ [])) (enough k j (n / 10) (omega arith) (omega arith))
    ]

pub last-digit : (n : ℕ) → n < 10 → decimal n ≡ (48 + n % 10) ∷ []
unfolding decimal digits_in
last-digit n h = rw (lt-ltb n 10 h)

split_off : (n : ℕ) → 10 ≤ n → digits_in (suc n) n ≡ digits_in n (n / 10) ++ ((48 + n % 10) ∷ [])
unfolding digits_in
split_off n h = rw (le-ltb n 10 h)

pub more-digits : (n : ℕ) → 10 ≤ n → decimal n ≡ decimal (n / 10) ++ ((48 + n % 10) ∷ [])
unfolding decimal
more-digits n h =
    split_off n h ∙ ap (λ (ds : List ℕ). ds ++ ((48 + n % 10) ∷ [])) (enough n (suc (n / 10)) (n / 10) (omega arith) (omega arith))

pub length_more : (n : ℕ) → 10 ≤ n → length (decimal n) ≡ length (decimal (n / 10)) + 1
length_more n h = ap length (more-digits n h) ∙ length-append (decimal (n / 10)) ((48 + n % 10) ∷ [])

pub some-digit : (n : ℕ) → 0 < length (decimal n)
some-digit n =
    elim (dec_lt n 10) [
      | yes s ↦ rw (last-digit n s) (omega arith)
      | no s ↦ omega (arith, length_more n (omega arith))
    ]

pub few-digits : (k n : ℕ) → n < 10 ^ suc k → length (decimal n) ≤ suc k
few-digits zero n h = rw (last-digit n (omega arith)) (omega arith)
few-digits (suc k) n h =
    elim (dec_lt n 10) [
      | yes s ↦ rw (last-digit n s) (omega arith)
      | no s ↦ omega (arith, length_more n (omega arith), few-digits k (n / 10) (omega (arith, pow-suc 10 (suc k))))
    ]
