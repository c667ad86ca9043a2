-- The records of seven bytes as a file: each record is found again, and a file's chunks make the file.
use Prim.Native.Nat.{ℕ, zero, suc, ◌*◌}
use mathlib.Core.Path.{◌≡◌, refl, ap, ◌∙◌}
use mathlib.Core.List.{List, [], ◌∷◌}
use native.Mathlib.Omega.{arith}
use native.Mathlib.Nat.{add-zero}
use lib.ListN.{length, get_or, drop}
use lib.Seq.{drop-nil}
use Rattle.std.proofs.lemmas.List.{get_or-drop}
use Rattle.std.specs.Prelude.{Option}
use Rattle.std.specs.Simd.{first_chunks}
use Rattle.protocol.specs.Format.{record_length, record_from}
use Rattle.plan.specs.Answer.{decoded_of}
use Rattle.plan.specs.declared.decode.Record as decode
use Rattle.plan.specs.Reading.{file_of, file_record}

from-drop : (l : List ℕ) (at : ℕ) → record_from l at ≡ record_from (drop at l) 0
unfolding record_from
from-drop l at =
    rw (get_or-drop at l 0 0, get_or-drop at l 1 0, get_or-drop at l 2 0, get_or-drop at l 3 0, get_or-drop at l 4 0, get_or-drop at l 5 0, get_or-drop at l 6 0, add-zero) refl

drop-seven : (rs : List (List ℕ)) (i : ℕ) → record_from (drop (record_length * i) (file_of rs)) 0 ≡ record_from (get_or rs i []) 0
unfolding record_from file_of
drop-seven [] i = ap (λ (l : List ℕ). record_from l 0) (drop-nil (record_length * i))
drop-seven (r ∷ rs) zero = refl
drop-seven (r ∷ rs) (suc i) = ap (λ (n : ℕ). record_from (drop n (file_of (r ∷ rs))) 0) seven ∙ drop-seven rs i
  where
    seven : record_length * suc i ≡ suc (suc (suc (suc (suc (suc (suc (record_length * i)))))))
    seven = omega arith

-- record i of the file is the record of its seven bytes
pub file_of-record : (rs : List (List ℕ)) (i : ℕ) → file_record (file_of rs) i ≡ record_from (get_or rs i []) 0
file_of-record rs i = from-drop (file_of rs) (record_length * i) ∙ drop-seven rs i

pub decoded-at : (rs : List (List ℕ)) (i : ℕ) {o : Option decode.Record} → decoded_of (record_from (get_or rs i []) 0) ≡ o → decoded_of (file_record (file_of rs) i) ≡ o
decoded-at rs i e = ap (λ r. decoded_of r) (file_of-record rs i) ∙ e

-- whole chunks of seven make the file again
pub file_of-chunks : (k : ℕ) (file : List ℕ) → length file ≡ record_length * k → file_of (first_chunks record_length k file) ≡ file
unfolding file_of
file_of-chunks zero [] e = refl
file_of-chunks zero (a ∷ file) e = absurd (omega (arith, e))
file_of-chunks (suc k) (a ∷ (b ∷ (c ∷ (d ∷ (x ∷ (y ∷ (z ∷ file))))))) e =
    ap (λ (l : List ℕ). a ∷ (b ∷ (c ∷ (d ∷ (x ∷ (y ∷ (z ∷ l))))))) (file_of-chunks k file (omega (arith, e)))
file_of-chunks (suc k) [] e = absurd (omega (arith, e))
file_of-chunks (suc k) (a ∷ []) e = absurd (omega (arith, e))
file_of-chunks (suc k) (a ∷ (b ∷ [])) e = absurd (omega (arith, e))
file_of-chunks (suc k) (a ∷ (b ∷ (c ∷ []))) e = absurd (omega (arith, e))
file_of-chunks (suc k) (a ∷ (b ∷ (c ∷ (d ∷ [])))) e = absurd (omega (arith, e))
file_of-chunks (suc k) (a ∷ (b ∷ (c ∷ (d ∷ (x ∷ []))))) e = absurd (omega (arith, e))
file_of-chunks (suc k) (a ∷ (b ∷ (c ∷ (d ∷ (x ∷ (y ∷ [])))))) e = absurd (omega (arith, e))
