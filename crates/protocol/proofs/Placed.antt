-- A list of which each element is changed by its place, counted from a number on; and a fact of each element that a store keeps.
use Prim.Native.Nat.{ℕ, zero, suc, ◌+◌, ◌<◌}
use native.Mathlib.Omega.{arith}
use mathlib.Core.Path.{◌≡◌, refl, sym, ap, ◌∙◌}
use mathlib.Core.List.{List, [], ◌∷◌}
use lib.ListN.{length, get_or, set, take, drop}

pub all_set : {A : Type 0} (P : A → Type 0) (d : A) (xs : List A) (i : ℕ) (x : A) → ((j : ℕ) → P (get_or xs j d)) → P x
    → (j : ℕ) → P (get_or (set xs i x) j d)
all_set P d [] i x all p j = all j
all_set P d (y ∷ ys) zero x all p zero = p
all_set P d (y ∷ ys) zero x all p (suc j) = all (suc j)
all_set P d (y ∷ ys) (suc i) x all p zero = all zero
all_set P d (y ∷ ys) (suc i) x all p (suc j) = all_set P d ys i x (λ k. all (suc k)) p j

unfoldable pub each_from : {A : Type 0} → (ℕ → A → A) → ℕ → List A → List A
each_from f i [] = []
each_from f i (x ∷ xs) = f i x ∷ each_from f (suc i) xs

module _ {A : Type 0} (f : ℕ → A → A) where
  pub each-length : (i : ℕ) (xs : List A) → length (each_from f i xs) ≡ length xs
  unfolding each_from
  each-length i [] = refl
  each-length i (x ∷ xs) = ap suc (each-length (suc i) xs)

  -- what stands at a place, inside the list, or where the default is left as it is
  pub each-inside : (i : ℕ) (xs : List A) (j : ℕ) (d : A) → j < length xs → get_or (each_from f i xs) j d ≡ f (i + j) (get_or xs j d)
  unfolding each_from
  each-inside i [] j d h = absurd (omega arith)
  each-inside i (x ∷ xs) zero d h = ap (λ (k : ℕ). f k x) (omega arith)
  each-inside i (x ∷ xs) (suc j) d h =
      each-inside (suc i) xs j d (omega arith) ∙ ap (λ (k : ℕ). f k (get_or xs j d)) (omega arith)

  pub each_at : (i : ℕ) (xs : List A) (j : ℕ) (d : A) → f (i + j) d ≡ d → get_or (each_from f i xs) j d ≡ f (i + j) (get_or xs j d)
  unfolding each_from
  each_at i [] j d e = sym e
  each_at i (x ∷ xs) zero d e = ap (λ (k : ℕ). f k x) (omega arith)
  each_at i (x ∷ xs) (suc j) d e =
      each_at (suc i) xs j d (ap (λ (k : ℕ). f k d) (omega arith) ∙ e) ∙ ap (λ (k : ℕ). f k (get_or xs j d)) (omega arith)

  -- at a place whose old value does not matter two lists of one length have the same
  pub each-blind : (i : ℕ) (xs ys : List A) (j : ℕ) (d : A) → length xs ≡ length ys → ((x y : A) → f (i + j) x ≡ f (i + j) y)
      → get_or (each_from f i xs) j d ≡ get_or (each_from f i ys) j d
  unfolding each_from
  each-blind i [] [] j d e blind = refl
  each-blind i [] (y ∷ ys) j d e blind = absurd (omega arith)
  each-blind i (x ∷ xs) [] j d e blind = absurd (omega arith)
  each-blind i (x ∷ xs) (y ∷ ys) zero d e blind =
      let z : i ≡ i + 0 = omega arith in ap (λ (k : ℕ). f k x) z ∙ (blind x y ∙ ap (λ (k : ℕ). f k y) (sym z))
  each-blind i (x ∷ xs) (y ∷ ys) (suc j) d e blind =
      let z : suc i + j ≡ i + suc j = omega arith in
      each-blind (suc i) xs ys j d (omega arith)
      (λ x' y'. ap (λ (k : ℕ). f k x') z ∙ (blind x' y' ∙ ap (λ (k : ℕ). f k y') (sym z)))

  pub each_set : (i : ℕ) (xs : List A) (j : ℕ) (x : A) → each_from f i (set xs j x) ≡ set (each_from f i xs) j (f (i + j) x)
  unfolding each_from
  each_set i [] j x = refl
  each_set i (y ∷ ys) zero x = ap (λ (k : ℕ). f k x ∷ each_from f (suc i) ys) (omega arith)
  each_set i (y ∷ ys) (suc j) x =
      ap (λ (zs : List A). f i y ∷ zs)
      (each_set (suc i) ys j x ∙ ap (λ (k : ℕ). set (each_from f (suc i) ys) j (f k x)) (omega arith))

  pub each_take : (i k : ℕ) (xs : List A) → take k (each_from f i xs) ≡ each_from f i (take k xs)
  unfolding each_from
  each_take i zero xs = refl
  each_take i (suc k) [] = refl
  each_take i (suc k) (x ∷ xs) = ap (λ (zs : List A). f i x ∷ zs) (each_take (suc i) k xs)

  pub each-drop : (i k : ℕ) (xs : List A) → drop k (each_from f i xs) ≡ each_from f (i + k) (drop k xs)
  unfolding each_from
  each-drop i zero xs = ap (λ (j : ℕ). each_from f j xs) (omega arith)
  each-drop i (suc k) [] = refl
  each-drop i (suc k) (x ∷ xs) = each-drop (suc i) k xs ∙ ap (λ (j : ℕ). each_from f j (drop k xs)) (omega arith)

  -- the list that has these elements
  pub each-is : (i : ℕ) (xs ys : List A) (d : A) → length ys ≡ length xs → ((j : ℕ) → get_or ys j d ≡ f (i + j) (get_or xs j d))
      → ys ≡ each_from f i xs
  unfolding each_from
  each-is i [] [] d e same = refl
  each-is i [] (y ∷ ys) d e same = absurd (omega arith)
  each-is i (x ∷ xs) [] d e same = absurd (omega arith)
  each-is i (x ∷ xs) (y ∷ ys) d e same =
      let first : y ≡ f i x = same 0 ∙ ap (λ (k : ℕ). f k x) (omega arith) in
      let rest : ys ≡ each_from f (suc i) xs
      = each-is (suc i) xs ys d (omega arith) (λ j. same (suc j) ∙ ap (λ (k : ℕ). f k (get_or xs j d)) (omega arith)) in
      ap (λ (z : A). z ∷ ys) first ∙ ap (λ (zs : List A). f i x ∷ zs) rest
