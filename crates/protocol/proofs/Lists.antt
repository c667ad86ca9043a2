-- Lists that are counted off, repeated or read from a file: their lengths, and what stands at a place.
use Prim.Native.Nat.{ℕ, zero, suc, ◌+◌, ◌<◌}
use mathlib.Core.Path.{◌≡◌, refl, ap, ◌∙◌}
use mathlib.Core.List.{List, [], ◌∷◌, ◌++◌, map}
use native.Mathlib.Omega.{arith}
use lib.ListN.{length, get_or, replicate, length-map, get_or-map}
use Rattle.protocol.specs.Format.{records_from, count_from, up_to}

-- inside a list the default does not matter
pub get_or-any : {A : Type 0} (l : List A) (i : ℕ) (d e : A) → i < length l → get_or l i d ≡ get_or l i e
get_or-any [] i d e h = absurd (omega arith)
get_or-any (x ∷ l) zero d e h = refl
get_or-any (x ∷ l) (suc i) d e h = get_or-any l i d e (omega arith)

-- of copies of one value each is that value, and so is what is read past them
pub get_or-copies : {A : Type 0} (x : A) (n i : ℕ) → get_or (replicate n x) i x ≡ x
get_or-copies x zero i = refl
get_or-copies x (suc n) zero = refl
get_or-copies x (suc n) (suc i) = get_or-copies x n i

-- ---- numbers counted off

pub length-count_from : (k i : ℕ) → length (count_from k i) ≡ k
unfolding count_from
length-count_from zero i = refl
length-count_from (suc k) i = ap suc (length-count_from k (suc i))

pub get_or-count_from : (k i j d : ℕ) → j < k → get_or (count_from k i) j d ≡ i + j
unfolding count_from
get_or-count_from zero i j d h = absurd (omega arith)
get_or-count_from (suc k) i zero d h = omega arith
get_or-count_from (suc k) i (suc j) d h = get_or-count_from k (suc i) j d (omega arith) ∙ omega arith

-- one more
count-more : (n i : ℕ) → count_from (suc n) i ≡ count_from n i ++ ((n + i) ∷ [])
unfolding count_from
count-more zero i =
    let e : 0 + i ≡ i = omega arith in
    rw e
count-more (suc n) i =
    let e : suc n + i ≡ n + suc i = omega arith in
    rw e (ap (λ (ws : List ℕ). i ∷ ws) (count-more n (suc i)))

pub up-to-more : (n : ℕ) → up_to (n + 1) ≡ up_to n ++ (n ∷ [])
up-to-more n =
    let a : n + 1 ≡ suc n = omega arith in
    let b : n + 0 ≡ n = omega arith in
    rw a (rw b at (count-more n 0))

-- ---- what is listed by number

pub length-counted : {A : Type 0} (f : ℕ → A) (k i : ℕ) → length (map f (count_from k i)) ≡ k
length-counted f k i = length-map (count_from k i) f ∙ length-count_from k i

pub get_or-counted : {A : Type 0} (f : ℕ → A) (d : A) (k i n : ℕ) → n < k → get_or (map f (count_from k i)) n d ≡ f (i + n)
get_or-counted f d k i n h =
    get_or-any (map f (count_from k i)) n d (f 0) (let e = length-counted f k i in omega arith)
    ∙ (get_or-map f (count_from k i) n 0 ∙ ap f (get_or-count_from k i n 0 h))

pub mapped : {A : Type 0} (f : ℕ → A) (k i : ℕ) (d : A) → i < k → get_or (map f (up_to k)) i d ≡ f i
mapped f k i d h = get_or-counted f d k 0 i h ∙ ap f (omega arith)

-- ---- records of a file

pub length-records_from : (file : List ℕ) (k i : ℕ) → length (records_from file k i) ≡ k
unfolding records_from
length-records_from file zero i = refl
length-records_from file (suc k) i = ap suc (length-records_from file k (suc i))
