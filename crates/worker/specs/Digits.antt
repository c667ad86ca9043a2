-- The registers that a number holds as its digits to base 65,536.
use Rattle.std.specs.Prelude.{◌≡◌, ℕ, ◌+◌, ◌*◌, ◌/◌, ◌%◌, ◌^◌, ◌<◌, List, [], ◌∷◌}
use Rattle.std.proofs.Common.{refl, arith}
use Rattle.worker.specs.declared.registers.Registers.TheInside.{Inside}

-- register r is the digit of 2 ^ (16 * r)
abbrev pub digit : ℕ → ℕ → ℕ
digit n r = n / 2 ^ (16 * r) % 65536

abbrev pub digits : ℕ → List ℕ
digits n = digit n 0 ∷ digit n 1 ∷ digit n 2 ∷ digit n 3 ∷ []

abbrev pub numbers_of : Inside → List ℕ
numbers_of a = digits a.digits

-- true of each number of 64 bits
abbrev pub Fits : Inside → Type 0
Fits a = a.digits < 18446744073709551616

abbrev pub as_number : List ℕ → ℕ
as_number [] = 0
as_number (x ∷ xs) = x + 65536 * as_number xs

abbrev pub from_numbers : List ℕ → Inside
from_numbers xs = record { digits = as_number xs }

-- the digits give the number back
pub number_back : (n : ℕ) → n < 18446744073709551616 → as_number (digits n) ≡ n
number_back n small = chained (digit n 0) (digit n 1) (digit n 2) (digit n 3) lowest next last
  where
    chained : {n q₁ q₂ : ℕ} (a b c d : ℕ) → n ≡ a + 65536 * q₁ → q₁ ≡ b + 65536 * q₂ → q₂ ≡ c + 65536 * d → as_number (a ∷ b ∷ c ∷ d ∷ []) ≡ n
    chained a b c d e₁ e₂ e₃ = omega arith

    lowest : n ≡ digit n 0 + 65536 * (n / 65536)
    lowest = omega arith

    next : n / 65536 ≡ digit n 1 + 65536 * (n / 4294967296)
    next = omega arith

    last : n / 4294967296 ≡ digit n 2 + 65536 * digit n 3
    last = omega arith

pub from_numbers_back : (a : Inside) → Fits a → from_numbers (numbers_of a) ≡ a
from_numbers_back a small = rw (number_back a.digits small) refl
