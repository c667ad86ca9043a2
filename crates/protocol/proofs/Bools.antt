-- Bools: what a disjunction or a conjunction says of its parts.
use mathlib.Core.Bool.{Bool, true, false, not, ◌&&◌, ◌||◌, true≢false, false≢true}
use mathlib.Core.Path.{◌≡◌, refl}

-- a Bool split, with what it was
pub split : {A : Type 0} (b : Bool) → (b ≡ true → A) → (b ≡ false → A) → A
split true t f = t refl
split false t f = f refl

-- what is said by denying it
pub not-true : (b : Bool) → not b ≡ true → b ≡ false
not-true true e = absurd (false≢true e)
not-true false e = refl

pub not-false : (b : Bool) → not b ≡ false → b ≡ true
not-false true e = refl
not-false false e = absurd (true≢false e)

pub or_assoc : (a b c : Bool) → a || (b || c) ≡ (a || b) || c
or_assoc true b c = refl
or_assoc false b c = refl

pub or-false : (a : Bool) → a || false ≡ a
or-false true = refl
or-false false = refl

-- a disjunction with a part that holds, and one of which the last part does not
pub or-holds : (a : Bool) {b : Bool} → b ≡ true → a || b ≡ true
or-holds true e = refl
or-holds false e = e

pub or-true : (a : Bool) → a || true ≡ true
or-true a = or-holds a refl

pub or-fails : (a : Bool) {b : Bool} → b ≡ false → a || b ≡ a
or-fails true e = refl
or-fails false e = e

-- the parts of one that does not hold
pub or_left : (a b : Bool) → a || b ≡ false → a ≡ false
or_left true b e = e
or_left false b e = refl

pub or_right : (a : Bool) {b : Bool} → a || b ≡ false → b ≡ false
or_right true e = absurd (true≢false e)
or_right false e = e

-- the parts of a conjunction that holds, and one with a part that does not
pub and_left : (a b : Bool) → a && b ≡ true → a ≡ true
and_left true b e = refl
and_left false b e = e

pub and_right : (a b : Bool) → a && b ≡ true → b ≡ true
and_right true b e = e
and_right false b e = absurd (false≢true e)

pub and-fails : (a : Bool) {b : Bool} → b ≡ false → a && b ≡ false
and-fails true e = e
and-fails false e = refl
