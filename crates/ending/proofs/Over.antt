-- Whether all workers have exited, failed or sleep, from what is known of each.
use Rattle.std.proofs.Common.{◌≡◌, ◌≤◌, ◌<◌, ℕ, zero, suc, ◌+◌, refl, ap, sym, ◌∙◌, Bool, true, false, ◌&&◌, List, length, get_or, take}
use native.Mathlib.Decide.{dec_lt}
use native.Mathlib.Omega.{arith}
use Rattle.std.proofs.Math.Bool.{and-false}
use Rattle.std.proofs.lemmas.List.{get_or-take}
use Rattle.std.specs.Bool.{MatchBool}
use Rattle.std.specs.List.{AllWithin, HoldsAt}
use lib.Seq.{length-take-le}
use Rattle.ending.specs.Ending.{code_final, all_over}

each-final : (fates : List ℕ) (k w : ℕ) → ((j : ℕ) → w ≤ j → j < w + k → code_final (get_or fates j 0) ≡ true) → all_over fates k w ≡ true
unfolding all_over
each-final fates zero w h = refl
each-final fates (suc k) w h =
    ap (λ (b : Bool). b && all_over fates k (suc w)) (h w (omega arith) (omega arith))
    ∙ each-final fates k (suc w) (λ j a b. h j (omega (arith, a)) (omega (arith, b)))

one-not : (fates : List ℕ) (k w j : ℕ) → w ≤ j → j < w + k → code_final (get_or fates j 0) ≡ false → all_over fates k w ≡ false
unfolding all_over
one-not fates zero w j a b e = absurd (omega (arith, a, b))
one-not fates (suc k) w j a b e =
    elim (dec_lt w j) [
      | yes later ↦ ap (λ (x : Bool). code_final (get_or fates w 0) && x) (one-not fates k (suc w) j later (omega (arith, b)) e) ∙ and-false (code_final (get_or fates w 0))
      | no here ↦
          let same : j ≡ w = omega (arith, here, a) in
          ap (λ (x : Bool). x && all_over fates k (suc w)) (ap (λ (i : ℕ). code_final (get_or fates i 0)) (sym same) ∙ e)
    ]

-- an answer by the first so many codes
pub over : (fates : List ℕ) (n : ℕ) (r : Bool) → n ≤ length fates
    → MatchBool r (AllWithin (λ code. code_final code ≡ true) (take n fates) 0 (length (take n fates)))
    ((k : ℕ) × (k < length (take n fates)) × HoldsAt (λ code. code_final code ≡ false) (take n fates) k)
    → r ≡ all_over fates n 0
over fates n true h all =
    let size = length-take-le n fates h in
    sym (each-final fates n 0 (λ j a b. ap code_final (sym (get_or-take n fates j 0 (omega (arith, b)))) ∙ all j 0 (omega arith) (omega (arith, b, size))))
over fates n false h (k, short, not_final) =
    let size = length-take-le n fates h in
    sym (one-not fates n 0 k (omega arith) (omega (arith, short, size)) (ap code_final (sym (get_or-take n fates k 0 (omega (arith, short, size)))) ∙ not_final 0))
