-- A register's digit, taken out and put in by shifts. Assumes nothing.
use Rattle.std.proofs.Common.{◌≡◌, ℕ, ◌+◌, ◌-◌, ◌*◌, ◌%◌, ◌^◌, ◌<◌, ◌≤◌, [], ◌∷◌, get_or, set, refl, arith}
use Rattle.protocol.proofs.Each.{each}
use Rattle.worker.specs.Digits.{digit, digits, number_back}

pub digit_at : (n r : ℕ) → r < 4 → digit n r ≡ get_or (digits n) r 0
digit_at n r l = each (λ k. digit n k ≡ get_or (digits n) k 0) 0 3 refl refl refl refl r (omega arith) (omega arith)

-- a digit in its place, as a shift makes it
abbrev pub shifted : ℕ → ℕ → ℕ
shifted d r = d * 2 ^ (16 * r) % 18446744073709551616

abbrev pub replaced : ℕ → ℕ → ℕ → ℕ
replaced n r value = n - shifted (digit n r) r + shifted value r

pub take-fits : (n r : ℕ) → r < 4 → n < 18446744073709551616 → shifted (digit n r) r ≤ n
take-fits n r l small =
    each (λ k. shifted (digit n k) k ≤ n) 0 3 (omega arith) (omega arith) (omega arith) (omega arith) r (omega arith) (omega arith)

pub put-fits : (n r value : ℕ) → r < 4 → n < 18446744073709551616 → value < 65536 → replaced n r value < 18446744073709551616
put-fits n r value l small v =
    each (λ k. replaced n k value < 18446744073709551616) 0 3 (omega arith) (omega arith) (omega arith) (omega arith) r (omega arith) (omega arith)

abbrev sum : ℕ → ℕ → ℕ → ℕ → ℕ
sum a b c d = a + 65536 * b + 4294967296 * c + 281474976710656 * d

module _ (a b c d : ℕ) (la : a < 65536) (lb : b < 65536) (lc : c < 65536) (ld : d < 65536) where
  digit-0 : digit (sum a b c d) 0 ≡ a
  digit-0 = omega arith

  digit-1 : digit (sum a b c d) 1 ≡ b
  digit-1 = omega arith

  digit-2 : digit (sum a b c d) 2 ≡ c
  digit-2 = omega arith

  digit-3 : digit (sum a b c d) 3 ≡ d
  digit-3 = omega arith

  digits_sum : {n : ℕ} → n ≡ sum a b c d → digits n ≡ a ∷ b ∷ c ∷ d ∷ []
  digits_sum e = rw e (rw (digit-0, digit-1, digit-2, digit-3))

sum-digits : (n : ℕ) → n < 18446744073709551616 → n ≡ sum (digit n 0) (digit n 1) (digit n 2) (digit n 3)
sum-digits n small = omega (arith, number_back n small)

-- the number with one digit less and another one more
module _ (n a b c d v : ℕ) (e : n ≡ sum a b c d) (la : a < 65536) (lb : b < 65536) (lc : c < 65536) (ld : d < 65536) (lv : v < 65536) where
  at-0 : n - shifted a 0 + shifted v 0 ≡ sum v b c d
  at-0 = omega arith

  at_1 : n - shifted b 1 + shifted v 1 ≡ sum a v c d
  at_1 = omega arith

  at-2 : n - shifted c 2 + shifted v 2 ≡ sum a b v d
  at-2 = omega arith

  at-3 : n - shifted d 3 + shifted v 3 ≡ sum a b c v
  at-3 = omega arith

pub replaced-digits : (n r value : ℕ) → r < 4 → n < 18446744073709551616 → value < 65536 → digits (replaced n r value) ≡ set (digits n) r value
replaced-digits n r v l small lv =
    each (λ k. digits (replaced n k v) ≡ set (digits n) k v) 0 3
    (digits_sum _ _ _ _ (omega arith) (omega arith) (omega arith) (omega arith) (at-0 n _ _ _ _ v (sum-digits n small) (omega arith) (omega arith) (omega arith) (omega arith) lv))
    (digits_sum _ _ _ _ (omega arith) (omega arith) (omega arith) (omega arith) (at_1 n _ _ _ _ v (sum-digits n small) (omega arith) (omega arith) (omega arith) (omega arith) lv))
    (digits_sum _ _ _ _ (omega arith) (omega arith) (omega arith) (omega arith) (at-2 n _ _ _ _ v (sum-digits n small) (omega arith) (omega arith) (omega arith) (omega arith) lv))
    (digits_sum _ _ _ _ (omega arith) (omega arith) (omega arith) (omega arith) (at-3 n _ _ _ _ v (sum-digits n small) (omega arith) (omega arith) (omega arith) (omega arith) lv))
    r (omega arith) (omega arith)
