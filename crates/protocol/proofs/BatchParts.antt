-- Parts back to back: one of them is put in its place, and all others stay. For an arbitrary unit and plan.
use Prim.Native.Nat.{ℕ, suc, ◌+◌, ◌-◌, ◌*◌, ◌<◌, ◌≤◌}
use native.Mathlib.Nat.{mul-suc, mul-le-mul_left}
use native.Mathlib.Decide.{dec_lt}
use native.Mathlib.Omega.{arith}
use mathlib.Core.Path.{◌≡◌, sym, ap, ◌∙◌, subst}
use mathlib.Core.List.{List, ◌++◌}
use lib.ListN.{length, take, drop, length-append, length-drop, take-append-drop}
use lib.Seq.{length-take-le, take_at, drop_at, take-append-le, drop-append-le, drop-append-add, drop-drop}
use Rattle.protocol.specs.Batch.{part_at, part_as}

-- the part of a plan stands before those of all later plans
pub unit-below : (unit k m : ℕ) → k < m → unit * k + unit ≤ unit * m
unit-below unit k m h = subst (λ (n : ℕ). n ≤ unit * m) (mul-suc unit k) (mul-le-mul_left {m = suc k} {n = m} unit h)

pub part_length : (unit k : ℕ) (bytes : List ℕ) → unit * k + unit ≤ length bytes → length (part_at unit k bytes) ≡ unit
unfolding part_at
part_length unit k bytes h = length-take-le unit (drop (unit * k) bytes) (omega (arith, length-drop (unit * k) bytes))

-- a part that is put back leaves all as it was
pub part-back : (unit k : ℕ) (bytes : List ℕ) → part_as unit k (part_at unit k bytes) bytes ≡ bytes
unfolding part_at part_as
part-back unit k bytes =
    ap (λ (rest : List ℕ). take (unit * k) bytes ++ rest) (take-append-drop unit (drop (unit * k) bytes)) ∙ take-append-drop (unit * k) bytes

-- what lies in front of a seam
front : (n at : ℕ) (before rest : List ℕ) → at + n ≤ length before → take n (drop at (before ++ rest)) ≡ take n (drop at before)
front n at before rest h =
    ap (λ (l : List ℕ). take n l) (drop-append-le at before rest (omega arith))
    ∙ take-append-le n (drop at before) rest (omega (arith, length-drop at before))

module _ (unit k : ℕ) (part bytes : List ℕ) (size : length part ≡ unit) (room : unit * k + unit ≤ length bytes) where
  abbrev before : List ℕ
  before = take (unit * k) bytes

  abbrev behind : List ℕ
  behind = drop unit (drop (unit * k) bytes)

  before-length : length before ≡ unit * k
  before-length = length-take-le (unit * k) bytes (omega arith)

  pub part_same : part_at unit k (part_as unit k part bytes) ≡ part
  unfolding part_at part_as
  part_same = ap (λ (l : List ℕ). take unit l) (drop_at before (part ++ behind) (unit * k) before-length) ∙ take_at part behind unit size

  pub parts-length : length (part_as unit k part bytes) ≡ length bytes
  unfolding part_as
  parts-length =
      let whole = length-append before (part ++ behind) in
      let rest = length-append part behind in
      let one = length-drop (unit * k) bytes in
      let two = length-drop unit (drop (unit * k) bytes) in
      omega (arith, before-length, size, room)

  earlier : (m : ℕ) → m < k → part_at unit m (part_as unit k part bytes) ≡ part_at unit m bytes
  unfolding part_at part_as
  earlier m h =
      let inside : unit * m + unit ≤ length before = omega (arith, unit-below unit m k h, before-length) in
      front unit (unit * m) before (part ++ behind) inside
      ∙ (sym (front unit (unit * m) before (drop (unit * k) bytes) inside)
      ∙ ap (λ (l : List ℕ). take unit (drop (unit * m) l)) (take-append-drop (unit * k) bytes))

  later : (m : ℕ) → k < m → part_at unit m (part_as unit k part bytes) ≡ part_at unit m bytes
  unfolding part_at part_as
  later m h = ap (λ (l : List ℕ). take unit l) (here ∙ sym there)
    where
      between : ℕ
      between = unit * m - (unit * k + unit)

      far : unit * k + (unit + between) ≡ unit * m
      far = omega (arith, unit-below unit k m h)

      here : drop (unit * m) (before ++ (part ++ behind)) ≡ drop between behind
      here =
          ap (λ (n : ℕ). drop n (before ++ (part ++ behind))) (let e : unit * m ≡ length before + (length part + between) = omega (arith, far, before-length, size) in e)
          ∙ (drop-append-add before (part ++ behind) (length part + between) ∙ drop-append-add part behind between)

      there : drop (unit * m) bytes ≡ drop between behind
      there =
          ap (λ (n : ℕ). drop n bytes) (sym far)
          ∙ (sym (drop-drop (unit + between) (unit * k) bytes) ∙ sym (drop-drop between unit (drop (unit * k) bytes)))

  pub part-other : (m : ℕ) → (m ≡ k → ⊥) → part_at unit m (part_as unit k part bytes) ≡ part_at unit m bytes
  part-other m ne = elim (dec_lt m k) [ yes h ↦ earlier m h | no h ↦ later m (omega arith) ]
