-- What becomes of the holder's bytes, by the ruling's case.
use Prim.Native.Nat.{ℕ}
use mathlib.Core.Bool.{Bool}
use mathlib.Core.Path.{◌≡◌, subst⁻¹}
use mathlib.Core.List.{List}
use Rattle.rules.specs.declared.ruling.Uncommitted.{Uncommitted}
use Rattle.engine.specs.Holding.{BytesSettled}

pub settled-as : {x y : Uncommitted} {h n : ℕ} {m : List ℕ} {c : List Bool} {k : List ℕ} {n' : ℕ} {m' : List ℕ} {c' : List Bool} → x ≡ y
    → BytesSettled y h n m c k n' m' c' → BytesSettled x h n m c k n' m' c'
settled-as {x} {y} {h} {n} {m} {c} {k} {n'} {m'} {c'} e t = subst⁻¹ (λ (b : Uncommitted). BytesSettled b h n m c k n' m' c') e t
