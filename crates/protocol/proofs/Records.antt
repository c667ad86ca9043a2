-- Lists of records, one more at the end: what the rules of a later record ask of those before it.
use Prim.Native.Nat.{ℕ, zero, suc, ◌+◌, max, ◌<◌, ◌≤◌}
use mathlib.Core.Bool.{Bool, true, false, cond, ◌&&◌, ◌||◌, true≢false, false≢true}
use mathlib.Core.Path.{◌≡◌, refl, sym, ap, ◌∙◌}
use mathlib.Core.List.{List, [], ◌∷◌, ◌++◌}
use native.Mathlib.Omega.{arith}
use native.Mathlib.Decide.{dec_lt}
use lib.Dec.{leb, ltb, eqb}
use lib.ListN.{length, get_or}
use borrow.Author.Tests.{lt-ltb, le-ltb, le-leb, ltb-true, ltb-false, leb-true, leb-false, eqb-true}
use Rattle.protocol.specs.Format.{Record, Step, is_barrier, is_sleep, is_step, is_step_of, size_in, sleepers_in, steps_in, step_of, first_in}
use Rattle.protocol.specs.Refusals.{any_of}
use Rattle.protocol.proofs.Bools.{or_assoc, or-false, and_left, or_left, or_right, split, and_right}

abbrev pub one : Record → List Record
one r = r ∷ []

abbrev pub one-step : Record → List Step
one-step r = step_of r ∷ []

pub any_of-one : (t : Record → Bool) (rs : List Record) (r : Record) → any_of t (rs ++ one r) ≡ any_of t rs || t r
unfolding any_of
any_of-one t [] r = or-false (t r)
any_of-one t (q ∷ rs) r = ap (λ (b : Bool). t q || b) (any_of-one t rs r) ∙ or_assoc (t q) (any_of t rs) (t r)

-- neither of two tests holds of any
pub any-either : (t u : Record → Bool) (rs : List Record) → any_of (λ q. t q || u q) rs ≡ false → (any_of t rs ≡ false) × (any_of u rs ≡ false)
unfolding any_of
any-either t u [] e = (refl, refl)
any-either t u (q ∷ rs) e =
    let here = or_left (t q || u q) _ e in
    let there = any-either t u rs (or_right (t q || u q) e) in
    (ap (λ (b : Bool). b || any_of t rs) (or_left (t q) (u q) here) ∙ there.0, ap (λ (b : Bool). b || any_of u rs) (or_right (t q) here) ∙ there.1)

pub none-either : (t u : Record → Bool) (rs : List Record) → any_of t rs ≡ false → any_of u rs ≡ false → any_of (λ q. t q || u q) rs ≡ false
unfolding any_of
none-either t u [] e f = refl
none-either t u (q ∷ rs) e f =
    ap (λ (b : Bool). (b || u q) || any_of (λ p. t p || u p) rs) (or_left (t q) (any_of t rs) e)
    ∙ (ap (λ (b : Bool). b || any_of (λ p. t p || u p) rs) (or_left (u q) (any_of u rs) f)
    ∙ none-either t u rs (or_right (t q) e) (or_right (u q) f))

-- one more than the largest number of the records that a test picks, 0 where it picks none
unfoldable pub top_in : (Record → Bool) → (Record → ℕ) → List Record → ℕ
top_in t f [] = 0
top_in t f (r ∷ rs) = max (cond (t r) (suc (f r)) 0) (top_in t f rs)

-- the lowest barrier that a barrier record may still name, the lowest worker that a sleep record may, and the lowest worker with no step yet,
-- so far as the order goes
abbrev pub low_in : List Record → ℕ
low_in rs = top_in is_barrier (λ r. r.register) rs

abbrev pub dozing_in : List Record → ℕ
dozing_in rs = top_in is_sleep (λ r. r.worker) rs

abbrev pub opened_in : List Record → ℕ
opened_in rs = top_in is_step (λ r. r.worker) rs

pub top_in-one : (t : Record → Bool) (f : Record → ℕ) (rs : List Record) (r : Record)
    → top_in t f (rs ++ one r) ≡ max (top_in t f rs) (cond (t r) (suc (f r)) 0)
unfolding top_in
top_in-one t f [] r = omega arith
top_in-one t f (q ∷ rs) r = let e = top_in-one t f rs r in omega arith

pub top_in-kept : (t : Record → Bool) (f : Record → ℕ) (rs : List Record) (r : Record) → t r ≡ false → top_in t f (rs ++ one r) ≡ top_in t f rs
top_in-kept t f rs r e =
    top_in-one t f rs r ∙ (ap (λ (b : Bool). max (top_in t f rs) (cond b (suc (f r)) 0)) e ∙ omega arith)

pub top_in-raised : (t : Record → Bool) (f : Record → ℕ) (rs : List Record) (r : Record)
    → t r ≡ true → top_in t f rs ≤ suc (f r) → top_in t f (rs ++ one r) ≡ suc (f r)
top_in-raised t f rs r e h =
    top_in-one t f rs r ∙ (ap (λ (b : Bool). max (top_in t f rs) (cond b (suc (f r)) 0)) e ∙ omega arith)

-- two tests that hold at the same time
pub ltb-same : (j k m n : ℕ) → (j < k → m < n) → (m < n → j < k) → ltb j k ≡ ltb m n
ltb-same j k m n f g =
    split (ltb j k) (λ e. e ∙ sym (lt-ltb m n (f (ltb-true j k e))))
    (λ e. e ∙ sym (le-ltb m n (not-lt (λ h. absurd (le_not (ltb-false j k e) (g h))))))
  where
    not-lt : {a b : ℕ} → (a < b → ⊥) → b ≤ a
    not-lt {a} {b} h = elim (dec_lt a b) [ yes l ↦ absurd (h l) | no l ↦ omega arith ]

    le_not : {a b : ℕ} → b ≤ a → a < b → ⊥
    le_not p q = omega arith

reaches-max : (b : Bool) (k m p : ℕ) → b && leb k m || ltb k p ≡ ltb k (max (cond b (suc m) 0) p)
reaches-max false k m p = ltb-same k p k (max 0 p) (λ h. omega arith) (λ h. omega arith)
reaches-max true k m p =
    split (leb k m)
    (λ e. ap (λ (b : Bool). b || ltb k p) e ∙ sym (lt-ltb k (max (suc m) p) (let h = leb-true k m e in omega arith)))
    (λ e. ap (λ (b : Bool). b || ltb k p) e ∙ ltb-same k p k (max (suc m) p) (λ h. omega arith) (λ h. let l = leb-false k m e in omega arith))

-- whether a picked record has a number of at least k
pub any-reaches : (t : Record → Bool) (f : Record → ℕ) (k : ℕ) (rs : List Record)
    → any_of (λ q. t q && leb k (f q)) rs ≡ ltb k (top_in t f rs)
unfolding any_of top_in
any-reaches t f k [] = sym (le-ltb k 0 (omega arith))
any-reaches t f k (r ∷ rs) =
    ap (λ (b : Bool). t r && leb k (f r) || b) (any-reaches t f k rs) ∙ reaches-max (t r) k (f r) (top_in t f rs)

-- whether any record is picked
pub picks : (t : Record → Bool) (f : Record → ℕ) (rs : List Record) → any_of t rs ≡ ltb 0 (top_in t f rs)
unfolding any_of top_in
picks t f [] = refl
picks t f (r ∷ rs) = ap (λ (b : Bool). t r || b) (picks t f rs) ∙ go (t r)
  where
    go : (b : Bool) → b || ltb 0 (top_in t f rs) ≡ ltb 0 (max (cond b (suc (f r)) 0) (top_in t f rs))
    go false = ltb-same 0 (top_in t f rs) 0 (max 0 (top_in t f rs)) (λ h. omega arith) (λ h. omega arith)
    go true = sym (lt-ltb 0 (max (suc (f r)) (top_in t f rs)) (omega arith))

-- The barriers' sizes.
abbrev pub names : ℕ → Record → Bool
names b r = is_barrier r && eqb r.register b

pub size_in-other : (rs : List Record) (r : Record) (b : ℕ) → names b r ≡ false → size_in (rs ++ one r) b ≡ size_in rs b
unfolding size_in
size_in-other [] r b e = ap (λ (t : Bool). cond t r.number 0) e
size_in-other (q ∷ rs) r b e = ap (λ (k : ℕ). cond (names b q) q.number k) (size_in-other rs r b e)

pub size_in-new : (rs : List Record) (r : Record) (b : ℕ) → any_of (names b) rs ≡ false → names b r ≡ true → size_in (rs ++ one r) b ≡ r.number
unfolding size_in any_of
size_in-new [] r b n e = ap (λ (t : Bool). cond t r.number 0) e
size_in-new (q ∷ rs) r b n e =
    ap (λ (t : Bool). cond t q.number (size_in (rs ++ one r) b)) (or_left (names b q) (any_of (names b) rs) n) ∙ size_in-new rs r b (or_right (names b q) n) e

pub any-implied : (t u : Record → Bool) (rs : List Record) → ((q : Record) → t q ≡ true → u q ≡ true) → any_of u rs ≡ false → any_of t rs ≡ false
unfolding any_of
any-implied t u [] f e = refl
any-implied t u (q ∷ rs) f e =
    split (t q) (λ p. absurd (true≢false (sym (f q p) ∙ or_left (u q) (any_of u rs) e)))
    (λ p. ap (λ (b : Bool). b || any_of t rs) p ∙ any-implied t u rs f (or_right (u q) e))

-- a test that holds of one holds where it implies another
pub any-other : (t u : Record → Bool) (rs : List Record) → ((q : Record) → t q ≡ true → u q ≡ true) → any_of t rs ≡ true → any_of u rs ≡ true
any-other t u rs f e = split (any_of u rs) (λ p. p) (λ p. absurd (true≢false (sym e ∙ any-implied t u rs f p)))

-- a barrier record that ascends names a new barrier
pub names-new : (rs : List Record) (b : ℕ) → low_in rs ≤ b → any_of (names b) rs ≡ false
names-new rs b h =
    any-implied (names b) (λ q. is_barrier q && leb b q.register) rs
    (λ q e.
    ap (λ (t : Bool). t && leb b q.register) (and_left (is_barrier q) (eqb q.register b) e)
    ∙ le-leb b q.register (let s = eqb-true q.register b (and_right (is_barrier q) (eqb q.register b) e) in omega arith))
    (any-reaches is_barrier (λ q. q.register) b rs ∙ le-ltb b (low_in rs) h)

-- The sleepers.
pub sleepers-other : (rs : List Record) (r : Record) → is_sleep r ≡ false → sleepers_in (rs ++ one r) ≡ sleepers_in rs
unfolding sleepers_in
sleepers-other [] r e = ap (λ (t : Bool). cond t (r.worker ∷ []) []) e
sleepers-other (q ∷ rs) r e = ap (λ (ws : List ℕ). cond (is_sleep q) (q.worker ∷ ws) ws) (sleepers-other rs r e)

pub sleepers-new : (rs : List Record) (r : Record) → is_sleep r ≡ true → sleepers_in (rs ++ one r) ≡ sleepers_in rs ++ (r.worker ∷ [])
unfolding sleepers_in
sleepers-new [] r e = ap (λ (t : Bool). cond t (r.worker ∷ []) []) e
sleepers-new (q ∷ rs) r e = ap (λ (ws : List ℕ). cond (is_sleep q) (q.worker ∷ ws) ws) (sleepers-new rs r e) ∙ go (is_sleep q)
  where
    go : (t : Bool) → cond t (q.worker ∷ (sleepers_in rs ++ (r.worker ∷ []))) (sleepers_in rs ++ (r.worker ∷ [])) ≡ cond t (q.worker ∷ sleepers_in rs) (sleepers_in rs) ++ (r.worker ∷ [])
    go true = refl
    go false = refl

pub no-sleepers : (rs : List Record) → any_of is_sleep rs ≡ false → sleepers_in rs ≡ []
unfolding sleepers_in any_of
no-sleepers [] e = refl
no-sleepers (q ∷ rs) e =
    ap (λ (t : Bool). cond t (q.worker ∷ sleepers_in rs) (sleepers_in rs)) (or_left (is_sleep q) (any_of is_sleep rs) e) ∙ no-sleepers rs (or_right (is_sleep q) e)

-- The steps.
pub steps_in-append : (rs qs : List Record) (w : ℕ) → steps_in (rs ++ qs) w ≡ steps_in rs w ++ steps_in qs w
unfolding steps_in
steps_in-append [] qs w = refl
steps_in-append (r ∷ rs) qs w = ap (λ (l : List Step). cond (is_step_of w r) (step_of r ∷ l) l) (steps_in-append rs qs w) ∙ go (is_step_of w r)
  where
    go : (t : Bool) → cond t (step_of r ∷ (steps_in rs w ++ steps_in qs w)) (steps_in rs w ++ steps_in qs w) ≡ cond t (step_of r ∷ steps_in rs w) (steps_in rs w) ++ steps_in qs w
    go true = refl
    go false = refl

pub steps_in-one : (rs : List Record) (r : Record) (w : ℕ) → steps_in (rs ++ one r) w ≡ steps_in rs w ++ cond (is_step_of w r) (one-step r) []
unfolding steps_in
steps_in-one rs r w = steps_in-append rs (one r) w

-- Where a worker's steps begin.
abbrev pub from : ℕ → Record → Bool
from w r = is_step r && leb w r.worker

first-none : (rs : List Record) (w : ℕ) → any_of (from w) rs ≡ false → first_in rs w ≡ length rs
unfolding first_in any_of
first-none [] w e = refl
first-none (r ∷ rs) w e =
    ap (λ (t : Bool). cond t 0 (suc (first_in rs w))) (or_left (from w r) (any_of (from w) rs) e) ∙ ap suc (first-none rs w (or_right (from w r) e))

first_some : (rs : List Record) (w : ℕ) → any_of (from w) rs ≡ true → first_in rs w < length rs
unfolding first_in any_of
first_some [] w e = absurd (false≢true e)
first_some (r ∷ rs) w e = go (λ h. first_some rs w h) (from w r) e
  where
    go : (any_of (from w) rs ≡ true → first_in rs w < length rs)
        → (t : Bool) → t || any_of (from w) rs ≡ true → cond t 0 (suc (first_in rs w)) < suc (length rs)
    go ih true h = omega arith
    go ih false h = let l = ih h in omega arith

first-kept : (rs : List Record) (r : Record) (w : ℕ) → first_in rs w < length rs → first_in (rs ++ one r) w ≡ first_in rs w
unfolding first_in
first-kept [] r w h = absurd (omega arith)
first-kept (q ∷ rs) r w h = go (λ l. first-kept rs r w l) (from w q) h
  where
    go : (first_in rs w < length rs → first_in (rs ++ one r) w ≡ first_in rs w)
        → (t : Bool) → cond t 0 (suc (first_in rs w)) < suc (length rs) → cond t 0 (suc (first_in (rs ++ one r) w)) ≡ cond t 0 (suc (first_in rs w))
    go ih true l = refl
    go ih false l = ap suc (ih (omega arith))

first_next : (rs : List Record) (r : Record) (w : ℕ) → any_of (from w) rs ≡ false → first_in (rs ++ one r) w ≡ length rs + cond (from w r) 0 1
unfolding first_in any_of
first_next [] r w e = go (from w r)
  where
    go : (t : Bool) → cond {A = ℕ} t 0 1 ≡ 0 + cond t 0 1
    go true = refl
    go false = refl
first_next (q ∷ rs) r w e =
    let ih = first_next rs r w (or_right (from w q) e) in
    ap (λ (t : Bool). cond t 0 (suc (first_in (rs ++ one r) w))) (or_left (from w q) (any_of (from w) rs) e) ∙ omega arith

-- no step of worker w or a later one yet
pub first-unopened : (rs : List Record) (w : ℕ) → opened_in rs ≤ w → first_in rs w ≡ length rs
first-unopened rs w h = first-none rs w (any-reaches is_step (λ r. r.worker) w rs ∙ le-ltb w (opened_in rs) h)

pub first-opened : (rs : List Record) (w : ℕ) → w < opened_in rs → first_in rs w < length rs
first-opened rs w h = first_some rs w (any-reaches is_step (λ r. r.worker) w rs ∙ lt-ltb w (opened_in rs) h)

pub first-inside : (rs : List Record) (w : ℕ) → first_in rs w ≤ length rs
unfolding first_in
first-inside [] w = omega arith
first-inside (r ∷ rs) w = go (first-inside rs w) (from w r)
  where
    go : first_in rs w ≤ length rs → (t : Bool) → cond t 0 (suc (first_in rs w)) ≤ suc (length rs)
    go h true = omega arith
    go h false = omega arith

-- one record more: a worker's first step stays where it is, or is the new record, or is still to come
pub first-one-opened : (rs : List Record) (r : Record) (w : ℕ) → w < opened_in rs → first_in (rs ++ one r) w ≡ first_in rs w
first-one-opened rs r w h = first-kept rs r w (first-opened rs w h)

pub first-one-unopened : (rs : List Record) (r : Record) (w : ℕ) → opened_in rs ≤ w → first_in (rs ++ one r) w ≡ length rs + cond (from w r) 0 1
first-one-unopened rs r w h = first_next rs r w (any-reaches is_step (λ r. r.worker) w rs ∙ le-ltb w (opened_in rs) h)

pub first-grows : (rs : List Record) (r : Record) (w : ℕ) → first_in rs w ≤ first_in (rs ++ one r) w
first-grows rs r w = elim (dec_lt w (opened_in rs)) [
  | yes h ↦ let e = first-one-opened rs r w h in omega arith
  | no h ↦ let e = first-one-unopened rs r w (omega arith) in let f = first-unopened rs w (omega arith) in omega arith
]

-- a step of worker w does not stand before the first one
pub first-least : (rs : List Record) (w i : ℕ) (d : Record) → i < length rs → from w (get_or rs i d) ≡ true → first_in rs w ≤ i
unfolding first_in
first-least [] w i d h e = absurd (omega arith)
first-least (r ∷ rs) w zero d h e = let z = ap (λ (t : Bool). cond t 0 (suc (first_in rs w))) e in omega arith
first-least (r ∷ rs) w (suc i) d h e = go (first-least rs w i d (omega arith) e) (from w r)
  where
    go : first_in rs w ≤ i → (t : Bool) → cond t 0 (suc (first_in rs w)) ≤ suc i
    go l true = omega arith
    go l false = omega arith
