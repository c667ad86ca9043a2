-- Where the files begin: each one behind that before it, and none behind the last byte. And the lengths as arrays of four bytes.
use Prim.Native.Nat.{ℕ, zero, suc, ◌+◌, ◌-◌, ◌*◌, ◌≤◌, ◌<◌}
use native.Mathlib.Numerals.{add-one}
use native.Mathlib.Omega.{arith}
use mathlib.Core.Path.{◌≡◌, refl, ap, ◌∙◌}
use mathlib.Core.List.{List, []}
use lib.ListN.{get_or, drop}
use lib.Seq.{get_or-take, get_or-drop}
use Rattle.std.specs.Simd.{first_chunks}
use Rattle.protocol.specs.Format.{long_at}
use Rattle.protocol.specs.Batch.{length_bytes, length_at, begins_at}

pub begins-first : (lengths : List ℕ) → begins_at lengths 0 ≡ 0
unfolding begins_at
begins-first lengths = refl

pub begins-next : (lengths : List ℕ) (k length : ℕ) → length ≡ long_at lengths (length_bytes * k) → begins_at lengths (k + 1) ≡ begins_at lengths k + length
unfolding begins_at length_at
begins-next lengths k length e = ap (λ (i : ℕ). begins_at lengths i) (add-one k) ∙ omega (arith, e)

begins-more : (lengths : List ℕ) (k n : ℕ) → begins_at lengths k ≤ begins_at lengths (k + n)
unfolding begins_at
begins-more lengths k zero = let e : begins_at lengths k ≡ begins_at lengths (k + 0) = ap (λ (i : ℕ). begins_at lengths i) (let z : k ≡ k + 0 = omega arith in z) in omega arith
begins-more lengths k (suc n) =
    let e : begins_at lengths (suc (k + n)) ≡ begins_at lengths (k + suc n) = ap (λ (i : ℕ). begins_at lengths i) (let z : suc (k + n) ≡ k + suc n = omega arith in z) in
    let m = begins-more lengths k n in
    omega arith

pub begins-within : (lengths : List ℕ) (k m : ℕ) → k ≤ m → begins_at lengths k ≤ begins_at lengths m
begins-within lengths k m h =
    let e : begins_at lengths (k + (m - k)) ≡ begins_at lengths m = ap (λ (i : ℕ). begins_at lengths i) (let z : k + (m - k) ≡ m = omega arith in z) in
    let g = begins-more lengths k (m - k) in
    omega arith

byte-in : (lengths : List ℕ) (n i j : ℕ) → i < n → j < length_bytes
    → get_or (get_or (first_chunks length_bytes n lengths) i []) j 0 ≡ get_or lengths (length_bytes * i + j) 0
byte-in lengths zero i j h l = absurd (omega arith)
byte-in lengths (suc n) zero j h l = get_or-take length_bytes lengths j 0 l ∙ ap (λ (at : ℕ). get_or lengths at 0) (omega arith)
byte-in lengths (suc n) (suc i) j h l =
    byte-in (drop length_bytes lengths) n i j (omega arith) l
    ∙ get_or-drop length_bytes lengths (length_bytes * i + j) 0
    ∙ ap (λ (at : ℕ). get_or lengths at 0) (omega arith)

-- the number of the array at an index is that file's length
pub length-in : (lengths : List ℕ) (n i : ℕ) → i < n → long_at (get_or (first_chunks length_bytes n lengths) i []) 0 ≡ long_at lengths (length_bytes * i)
length-in lengths n i h =
    let first : length_bytes * i + 0 ≡ length_bytes * i = omega arith in
    omega (
      arith,
      byte-in lengths n i 0 h (omega arith),
      ap (λ (at : ℕ). get_or lengths at 0) first,
      byte-in lengths n i 1 h (omega arith),
      byte-in lengths n i 2 h (omega arith),
      byte-in lengths n i 3 h (omega arith),
    )
