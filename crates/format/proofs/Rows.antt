-- The one rule over the rows of the operand table, and where the row of an op stands.
use Rattle.std.proofs.Common.{arith, ℕ, suc, ◌+◌, ◌-◌, ◌<◌, ◌≤◌, Bool, true, false, cond, ◌≡◌, refl, sym, ap, ◌∙◌, subst, List, [], ◌∷◌, map, length, get_or, eqb, Option, Some, None, option_map}
use Rattle.protocol.specs.Format as format
use Rattle.std.proofs.Math.Option.{some}
use Rattle.protocol.specs.Format.{table, row_in, count_from}
use Rattle.protocol.proofs.Lists.{get_or-counted}
use Rattle.format.specs.Table.{limits_of, limits, limits_in, limits_for, place_in}
use Rattle.format.specs.declared.table.Row.{Row}

-- two functions that are the same on the n numbers from a on, by one test over the list of them
pub on-run : {A : Type 0} (f g : ℕ → A) (d : A) (a n : ℕ) → map f (count_from n a) ≡ map g (count_from n a) → (o : ℕ) → a ≤ o → o < a + n → f o ≡ g o
on-run f g d a n tested o l h =
    let e : a + (o - a) ≡ o = omega arith in
    subst (λ (k : ℕ). f k ≡ g k) e
    (sym (get_or-counted f d n a (o - a) (omega arith))
    ∙ (ap (λ ks. get_or ks (o - a) d) tested ∙ get_or-counted g d n a (o - a) (omega arith)))

-- the row of an op is the one at its place, of any table
at-place : (xs : List format.Row) (o : ℕ) (d : Row) → option_map (λ k. get_or (map limits_of xs) k d) (place_in xs o) ≡ limits_in (row_in xs o)
unfolding row_in place_in
at-place [] o d = refl
at-place (x ∷ xs) o d = go (at-place xs o d) (eqb x.op o)
  where
    shifted : (p : Option ℕ) → option_map (λ k. get_or (map limits_of (x ∷ xs)) k d) (option_map suc p) ≡ option_map (λ k. get_or (map limits_of xs) k d) p
    shifted None = refl
    shifted (Some k) = refl

    go : option_map (λ k. get_or (map limits_of xs) k d) (place_in xs o) ≡ limits_in (row_in xs o) → (b : Bool)
        → option_map (λ k. get_or (map limits_of (x ∷ xs)) k d) (cond b (Some 0) (option_map suc (place_in xs o))) ≡ limits_in (cond b (some x) (row_in xs o))
    go rest true = refl
    go rest false = shifted (place_in xs o) ∙ rest

-- an op without a row, and the row of one that has it
pub no_row : (o : ℕ) → place_in table o ≡ None → limits_for o ≡ None
unfolding limits
no_row o e = let d : Row = record { op = 0; registers = 0; least = 0; most = 0 } in sym (at-place table o d) ∙ ap (λ p. option_map (λ k. get_or limits k d) p) e

pub row_at : (o k : ℕ) (d : Row) → place_in table o ≡ Some k → limits_for o ≡ Some (get_or limits k d)
unfolding limits
row_at o k d e = sym (at-place table o d) ∙ ap (λ p. option_map (λ j. get_or limits j d) p) e

-- no place is behind the rows
place-in : (xs : List format.Row) (o k : ℕ) → place_in xs o ≡ Some k → k < length xs
unfolding place_in
place-in [] o k e = absurd cc
place-in (x ∷ xs) o k e = go (place-in xs o) (eqb x.op o) e
  where
    behind : (p : Option ℕ) → ((j : ℕ) → p ≡ Some j → j < length xs) → option_map suc p ≡ Some k → k < suc (length xs)
    behind None below e = absurd cc
    behind (Some j) below e = let inside = below j refl in let same : suc j ≡ k = cc in omega arith

    go : ((j : ℕ) → place_in xs o ≡ Some j → j < length xs) → (b : Bool) → cond b (Some 0) (option_map suc (place_in xs o)) ≡ Some k → k < suc (length xs)
    go below true e = let same : 0 ≡ k = cc in omega arith
    go below false e = behind (place_in xs o) below e

pub place_inside : (o k : ℕ) → place_in table o ≡ Some k → k < 15
place_inside o k e = place-in table o k e
