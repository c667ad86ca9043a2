-- Counts of a worker's occurrences in the lists, and sums over the workers.
use Prim.Native.Nat.{ℕ, zero, suc, ◌+◌, ◌<◌, ◌≤◌}
use native.Mathlib.Nat.{zero-add}
use native.Mathlib.Decide.{ℕ_discrete}
use native.Mathlib.Omega.{arith}
use mathlib.Core.Bool.{Bool, true, false, cond, ◌||◌}
use mathlib.Core.Path.{◌≡◌, refl, sym, ap, ◌∙◌, subst⁻¹}
use mathlib.Core.List.{List, [], ◌∷◌, ◌++◌}
use lib.Dec.{eqb}
use lib.ListN.{length, get_or, set, take, length-set}
use lib.Seq.{get_or-set_same, get_or-set_other}
use borrow.Author.Tests.{eq-eqb, ne_eqb}
use Rattle.protocol.specs.Format.{count_from}
use Rattle.protocol.specs.Steps.{going, Worker, new_worker, fate_as}
use Rattle.protocol.specs.Rounds.{keep, member, freed}
use Rattle.protocol.specs.Demands.{occurs}
use Rattle.protocol.proofs.Invariant.{sum_of}

-- a test that is true and false
pub clash : {A : Type 0} → false ≡ true → A
clash e = absurd (let z : ◌≡◌ {A = ℕ} 0 1 = cc in omega arith)

-- occurrences

pub occurs-same : (w : ℕ) (ws : List ℕ) → occurs w (w ∷ ws) ≡ 1 + occurs w ws
unfolding occurs
occurs-same w ws = rw (eq-eqb w w refl)

pub occurs-other : (w v : ℕ) (ws : List ℕ) → (w ≡ v → ⊥) → occurs w (v ∷ ws) ≡ occurs w ws
unfolding occurs
occurs-other w v ws ne = rw (ne_eqb w v ne) (zero-add _)

pub occurs-one : (w : ℕ) → occurs w (w ∷ []) ≡ 1
unfolding occurs
occurs-one w = occurs-same w []

pub occurs-none : (w v : ℕ) → (w ≡ v → ⊥) → occurs w (v ∷ []) ≡ 0
unfolding occurs
occurs-none w v ne = occurs-other w v [] ne

pub occurs-empty : (w : ℕ) → occurs w [] ≡ 0
unfolding occurs
occurs-empty w = refl

pub occurs-tail : (w v : ℕ) (ws : List ℕ) → occurs w ws ≤ occurs w (v ∷ ws)
unfolding occurs
occurs-tail w v ws = omega arith

pub occurs-append : (w : ℕ) (us vs : List ℕ) → occurs w (us ++ vs) ≡ occurs w us + occurs w vs
unfolding occurs
occurs-append w [] vs = omega arith
occurs-append w (u ∷ us) vs = omega (arith, occurs-append w us vs)

-- in a list's first ones, however many, nobody occurs more often than in all of it
pub occurs-take : (w k : ℕ) (ws : List ℕ) → occurs w (take k ws) ≤ occurs w ws
unfolding occurs
occurs-take w zero ws = omega arith
occurs-take w (suc k) [] = omega arith
occurs-take w (suc k) (v ∷ vs) = omega (arith, occurs-take w k vs)

-- a test holds of one number and not of the other: they differ
differ : (t : ℕ → Bool) (w v : ℕ) → t w ≡ true → t v ≡ false → eqb w v ≡ false
differ t w v p q = ne_eqb w v λ e. clash (sym q ∙ ap t (sym e) ∙ p)

pub occurs-kept : (t : ℕ → Bool) (w : ℕ) (ws : List ℕ) → t w ≡ true → occurs w (keep t ws) ≡ occurs w ws
unfolding occurs keep
occurs-kept t w [] p = refl
occurs-kept t w (v ∷ vs) p = go (t v) refl (occurs-kept t w vs p)
  where
    go : (b : Bool) → t v ≡ b → occurs w (keep t vs) ≡ occurs w vs → occurs w (cond b (v ∷ keep t vs) (keep t vs)) ≡ occurs w (v ∷ vs)
    go true q h = ap (λ (k : ℕ). cond (eqb w v) 1 0 + k) h
    go false q h = rw (differ t w v p q) (omega arith)

pub occurs-dropped : (t : ℕ → Bool) (w : ℕ) (ws : List ℕ) → t w ≡ false → occurs w (keep t ws) ≡ 0
unfolding occurs keep
occurs-dropped t w [] p = refl
occurs-dropped t w (v ∷ vs) p = go (t v) refl (occurs-dropped t w vs p)
  where
    go : (b : Bool) → t v ≡ b → occurs w (keep t vs) ≡ 0 → occurs w (cond b (v ∷ keep t vs) (keep t vs)) ≡ 0
    go true q h = rw (ne_eqb w v λ e. clash (sym p ∙ ap t e ∙ q)) (omega arith)
    go false q h = h

-- membership

pub member-some : (w : ℕ) (ws : List ℕ) → member w ws ≡ true → 0 < occurs w ws
unfolding member occurs
member-some w [] h = clash h
member-some w (v ∷ vs) h = go (eqb w v) (member-some w vs) h
  where
    go : (b : Bool) → (member w vs ≡ true → 0 < occurs w vs) → (b || member w vs) ≡ true → 0 < cond b 1 0 + occurs w vs
    go true f h = omega arith
    go false f h = omega (arith, f h)

pub member-none : (w : ℕ) (ws : List ℕ) → member w ws ≡ false → occurs w ws ≡ 0
unfolding member occurs
member-none w [] h = refl
member-none w (v ∷ vs) h = go (eqb w v) (member-none w vs) h
  where
    go : (b : Bool) → (member w vs ≡ false → occurs w vs ≡ 0) → (b || member w vs) ≡ false → cond b 1 0 + occurs w vs ≡ 0
    go true f h = clash (sym h)
    go false f h = omega (arith, f h)

pub some-member : (w : ℕ) (ws : List ℕ) → 0 < occurs w ws → member w ws ≡ true
some-member w ws h = go (member w ws) refl
  where
    go : (b : Bool) → member w ws ≡ b → b ≡ true
    go true q = refl
    go false q = absurd (omega (arith, member-none w ws q))

-- the numbers from i on
pub occurs-below : (k i w : ℕ) → w < i → occurs w (count_from k i) ≡ 0
unfolding occurs count_from
occurs-below zero i w h = refl
occurs-below (suc k) i w h = rw (ne_eqb w i λ e. omega arith) (omega (arith, occurs-below k (suc i) w (omega arith)))

pub occurs-above : (k i w : ℕ) → i + k ≤ w → occurs w (count_from k i) ≡ 0
unfolding occurs count_from
occurs-above zero i w h = refl
occurs-above (suc k) i w h = rw (ne_eqb w i λ e. omega arith) (omega (arith, occurs-above k (suc i) w (omega arith)))

pub occurs-within : (k i w : ℕ) → i ≤ w → w < i + k → occurs w (count_from k i) ≡ 1
unfolding occurs count_from
occurs-within zero i w l h = absurd (omega arith)
occurs-within (suc k) i w l h = go (ℕ_discrete w i) (occurs-within k (suc i) w)
  where
    go : Dec (w ≡ i) → (suc i ≤ w → w < suc i + k → occurs w (count_from k (suc i)) ≡ 1) → cond (eqb w i) 1 0 + occurs w (count_from k (suc i)) ≡ 1
    go (yes e) f = rw (eq-eqb w i e) (omega (arith, occurs-below k (suc i) w (omega arith)))
    go (no ne) f = rw (ne_eqb w i ne) (omega (arith, f (omega arith) (omega arith)))

-- sums over the workers

pub sum_mono : (f g : ℕ → Worker → ℕ) (vs us : List Worker) → length vs ≡ length us
    → ((w : ℕ) → w < length vs → f w (get_or vs w new_worker) ≤ g w (get_or us w new_worker)) → sum_of f vs ≤ sum_of g us
unfolding sum_of
sum_mono f g [] [] e h = omega arith
sum_mono f g [] (u ∷ us) e h = absurd (omega arith)
sum_mono f g (v ∷ vs) [] e h = absurd (omega arith)
sum_mono f g (v ∷ vs) (u ∷ us) e h =
    omega (arith, h 0 (omega arith), sum_mono (λ w. f (suc w)) (λ w. g (suc w)) vs us (omega arith) (λ w l. h (suc w) (omega arith)))

pub sum-strict : (f g : ℕ → Worker → ℕ) (vs us : List Worker) (h : ℕ) → length vs ≡ length us → h < length vs
    → ((w : ℕ) → w < length vs → f w (get_or vs w new_worker) ≤ g w (get_or us w new_worker))
    → f h (get_or vs h new_worker) < g h (get_or us h new_worker) → sum_of f vs < sum_of g us
unfolding sum_of
sum-strict f g [] us h e b l q = absurd (omega arith)
sum-strict f g (v ∷ vs) [] h e b l q = absurd (omega arith)
sum-strict f g (v ∷ vs) (u ∷ us) zero e b l q =
    omega (arith, sum_mono (λ w. f (suc w)) (λ w. g (suc w)) vs us (omega arith) (λ w k. l (suc w) (omega arith)))
sum-strict f g (v ∷ vs) (u ∷ us) (suc h) e b l q =
    omega (arith, l 0 (omega arith), sum-strict (λ w. f (suc w)) (λ w. g (suc w)) vs us h (omega arith) (omega arith) (λ w k. l (suc w) (omega arith)) q)

-- a statement on each worker, after one worker's record is replaced: the others are as they were
pub each_set : (P : ℕ → Worker → Type 0) (vs : List Worker) (h : ℕ) (v : Worker) → h < length vs
    → ((w : ℕ) → (w ≡ h → ⊥) → P w (get_or vs w new_worker)) → P h v → (w : ℕ) → P w (get_or (set vs h v) w new_worker)
each_set P vs h v b f p w = go (ℕ_discrete w h)
  where
    go : Dec (w ≡ h) → P w (get_or (set vs h v) w new_worker)
    go (yes e) = subst⁻¹ (λ (k : ℕ). P k (get_or (set vs h v) k new_worker)) e (subst⁻¹ (P h) (get_or-set_same vs h v new_worker b) p)
    go (no ne) = subst⁻¹ (P w) (get_or-set_other vs h w v new_worker ne) (f w ne)

-- a sum after one worker's record is replaced, where the others' shares do not rise or do not fall
module _ (f : ℕ → Worker → ℕ) (vs us : List Worker) (h : ℕ) (v : Worker) (same : length us ≡ length vs) (b : h < length us) where
  pub sum-falls : ((w : ℕ) → (w ≡ h → ⊥) → f w (get_or us w new_worker) ≤ f w (get_or vs w new_worker)) → f h v < f h (get_or vs h new_worker)
      → sum_of f (set us h v) < sum_of f vs
  sum-falls others less =
      sum-strict f f (set us h v) vs h (length-set us h v ∙ same) (rw length-set b)
      (λ w l. each_set (λ w x. f w x ≤ f w (get_or vs w new_worker)) us h v b others (omega arith) w)
      (rw (get_or-set_same us h v new_worker b) less)

  pub sum-rises : ((w : ℕ) → (w ≡ h → ⊥) → f w (get_or vs w new_worker) ≤ f w (get_or us w new_worker)) → f h (get_or vs h new_worker) < f h v
      → sum_of f vs < sum_of f (set us h v)
  sum-rises others more =
      sum-strict f f vs (set us h v) h (sym (length-set us h v ∙ same)) (rw (← same) b)
      (λ w l. each_set (λ w x. f w (get_or vs w new_worker) ≤ f w x) us h v b others (omega arith) w)
      (rw (get_or-set_same us h v new_worker b) more)

-- those who wait no more: their fate alone is new

pub freed-length : (out : List ℕ) (vs : List Worker) → length (freed out vs) ≡ length vs
unfolding freed
freed-length [] vs = refl
freed-length (o ∷ os) vs = freed-length os (set vs o (fate_as going (get_or vs o new_worker))) ∙ length-set vs o (fate_as going (get_or vs o new_worker))

-- a worker is set going, also where there is none
set-going : (vs : List Worker) (w : ℕ) → get_or (set vs w (fate_as going (get_or vs w new_worker))) w new_worker ≡ fate_as going (get_or vs w new_worker)
unfolding new_worker
set-going [] w = refl
set-going (v ∷ vs) zero = refl
set-going (v ∷ vs) (suc w) = set-going vs w

pub freed-at : (out : List ℕ) (vs : List Worker) (w : ℕ)
    → get_or (freed out vs) w new_worker ≡ cond (member w out) (fate_as going (get_or vs w new_worker)) (get_or vs w new_worker)
unfolding freed member
freed-at [] vs w = refl
freed-at (o ∷ os) vs w = freed-at os (set vs o (fate_as going (get_or vs o new_worker))) w ∙ go (ℕ_discrete w o)
  where
    us : List Worker
    us = set vs o (fate_as going (get_or vs o new_worker))

    split : (v : Worker) (b : Bool) → cond b (fate_as going (fate_as going v)) (fate_as going v) ≡ fate_as going v
    split v true = refl
    split v false = refl

    go : Dec (w ≡ o) → cond (member w os) (fate_as going (get_or us w new_worker)) (get_or us w new_worker)
        ≡ cond (eqb w o || member w os) (fate_as going (get_or vs w new_worker)) (get_or vs w new_worker)
    go (yes e) = rw (e, eq-eqb o o refl, set-going vs o) (split (get_or vs o new_worker) (member o os))
    go (no ne) = rw (ne_eqb w o ne, get_or-set_other vs o w _ new_worker ne)
