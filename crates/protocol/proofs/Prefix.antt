-- The records that a reading has taken so far, and what is known of them: where each worker's steps stand, how many they are, that their operands
-- are in range and their barriers have a size.
use Prim.Native.Nat.{ℕ, suc, ◌+◌, ◌-◌, min, ◌<◌, ◌≤◌}
use mathlib.Core.Bool.{Bool, true, false, cond, not, ◌&&◌, ◌||◌, true≢false}
use mathlib.Core.Path.{◌≡◌, refl, sym, ap, ◌∙◌, subst, subst⁻¹}
use mathlib.Core.Logic.{⊎_elim}
use mathlib.Core.List.{List, [], ◌∷◌, ◌++◌}
use native.Mathlib.Omega.{arith}
use native.Mathlib.Decide.{ℕ_discrete, dec_lt}
use lib.Dec.{leb, eqb}
use lib.ListN.{length, get_or, drop, length-append, drop_of_length-le, get_or-append}
use lib.Seq.{get_or_at, drop-append-le}
use borrow.Author.Tests.{eq-eqb, ne_eqb, leb-true, leb-false, eqb-true, eqb-false}
use Rattle.protocol.specs.Ops.{op_barrier}
use Rattle.protocol.specs.Format.{Record, Step, sync, exit, is_barrier, is_step, is_step_of, workers_in, size_in, steps_in, step_of, first_in, size_limit, steps_limit}
use Rattle.protocol.specs.Refusals.{any_of, holds, wrong_operand, lacks_size, later_rule}
use Rattle.protocol.specs.WellFormed.{blank}
use Rattle.protocol.proofs.Bools.{split, or-fails, and_right}
use Rattle.protocol.proofs.Records.{one, one-step, top_in, any_of-one, top_in-kept, top_in-raised, opened_in, names, names-new, size_in-other, size_in-new, steps_in-one, first-unopened}
use Rattle.protocol.proofs.Records.{first-inside, first-grows, first-one-opened, first-one-unopened}
use Rattle.protocol.proofs.Taken.{StepTaken, BarrierTaken, SleepTaken, later-taken}

abbrev pub Together : List Record → Type 0
Together rs = (w : ℕ) → first_in rs w + length (steps_in rs w) ≡ first_in rs (suc w)

-- step k of worker w stands at record first(w) + k, and the worker's later steps stand behind it
pub record StepStands (rs : List Record) (w k : ℕ) : Type 0 where
  pub step : get_or (steps_in rs w) k (sync exit) ≡ step_of (get_or rs (first_in rs w + k) blank)
  pub of_worker : is_step_of w (get_or rs (first_in rs w + k) blank) ≡ true
  pub behind : length (steps_in (drop (suc (first_in rs w + k)) rs) w) + suc k ≡ length (steps_in rs w)

abbrev pub Placed : List Record → Type 0
Placed rs = (w k : ℕ) → k < length (steps_in rs w) → StepStands rs w k

-- a step of a plan of n workers, record i: its operands are in range, the barrier that it names has a size, and later workers' steps come later
pub record StepFits (n : ℕ) (rs : List Record) (i : ℕ) (r : Record) : Type 0 where
  pub inside : wrong_operand n r ≡ false
  pub sized : lacks_size rs r ≡ false
  pub ends : i < first_in rs (suc r.worker)

abbrev pub Fit : ℕ → List Record → Type 0
Fit n rs = (i : ℕ) → i < length rs → is_step (get_or rs i blank) ≡ true → StepFits n rs i (get_or rs i blank)

-- a barrier that a record names has a size from 1 to 8, any other the size 0
pub record BarrierSized (rs : List Record) (b : ℕ) : Type 0 where
  pub found : any_of (names b) rs ≡ not (eqb (size_in rs b) 0)
  pub most : size_in rs b ≤ size_limit

pub record Read (rs : List Record) : Type 0 where
  pub opened : opened_in rs ≤ workers_in rs
  -- a worker's steps stand together, those of the next worker behind them
  pub together : Together rs
  pub placed : Placed rs
  pub few : (w : ℕ) → length (steps_in rs w) ≤ steps_limit
  pub sized : (b : ℕ) → BarrierSized rs b
  pub fit : Fit (workers_in rs) rs

-- the parts of `Read` for one record more, by what the record is
module _ (rs : List Record) (r : Record) where
  length-one : length (rs ++ one r) ≡ length rs + 1
  length-one = length-append rs (one r)

  -- a record that is no step: the first steps are all still to come
  no_steps : opened_in rs ≡ 0 → is_step r ≡ false → Together rs → (w : ℕ) → length (steps_in (rs ++ one r) w) ≡ 0
  no_steps unopened no_step old w =
      let same = ap length (steps_in-one rs r w ∙ ap (λ (b : Bool). steps_in rs w ++ cond (b && eqb r.worker w) (one-step r) []) no_step) in
      let f₁ = first-unopened rs w (omega arith) in
      let f₂ = first-unopened rs (suc w) (omega arith) in
      omega (arith, old w, same, length-append (steps_in rs w) [])

  together-no-step : opened_in rs ≡ 0 → is_step r ≡ false → Together rs → Together (rs ++ one r)
  together-no-step unopened no_step old w = omega (arith, later w, later (suc w), no_steps unopened no_step old w)
    where
      later : (v : ℕ) → first_in (rs ++ one r) v ≡ length rs + 1
      later v =
          first-one-unopened rs r v (omega arith) ∙ ap (λ (b : Bool). length rs + cond (b && leb v r.worker) 0 1) no_step

  -- a step: the steps of later workers begin one record further on
  pub first_step : StepTaken rs r → (v : ℕ) → first_in (rs ++ one r) v ≡ first_in rs v + min 1 (v - r.worker)
  first_step t v = elim (dec_lt v (opened_in rs)) [
    | yes h ↦ first-one-opened rs r v h ∙ (let l = t.level in omega arith)
    | no h ↦
        let u : opened_in rs ≤ v = omega arith in
        let old = first-unopened rs v u in
        first-one-unopened rs r v u
        ∙ (ap (λ (b : Bool). length rs + cond (b && leb v r.worker) 0 1) t.step
        ∙ split (leb v r.worker)
        (λ q. ap (λ (b : Bool). length rs + cond b 0 1) q ∙ (let l = leb-true v r.worker q in omega arith))
        (λ q. ap (λ (b : Bool). length rs + cond b 0 1) q ∙ (let l = leb-false v r.worker q in omega arith)))
  ]

  of-worker : StepTaken rs r → (w : ℕ) → steps_in (rs ++ one r) w ≡ steps_in rs w ++ cond (eqb r.worker w) (one-step r) []
  of-worker t w = steps_in-one rs r w ∙ ap (λ (b : Bool). steps_in rs w ++ cond (b && eqb r.worker w) (one-step r) []) t.step

  -- and its own worker has one step more
  count-step : StepTaken rs r → (w : ℕ)
      → length (steps_in (rs ++ one r) w) + min 1 (w - r.worker) ≡ length (steps_in rs w) + min 1 (suc w - r.worker)
  count-step t w =
      let e = ap length (of-worker t w) ∙ length-append (steps_in rs w) (cond (eqb r.worker w) (one-step r) []) in
      split (eqb r.worker w)
      (λ q. let h = eqb-true r.worker w q in let d = ap (λ (b : Bool). length (cond b (one-step r) [])) q in omega arith)
      (λ q. let h = eqb-false r.worker w q in let d = ap (λ (b : Bool). length (cond b (one-step r) [])) q in omega arith)

  together-step : StepTaken rs r → Together rs → Together (rs ++ one r)
  together-step t old w = omega (arith, old w, first_step t w, first_step t (suc w), count-step t w)

  few-step : StepTaken rs r → ((w : ℕ) → length (steps_in rs w) ≤ steps_limit) → (w : ℕ) → length (steps_in (rs ++ one r) w) ≤ steps_limit
  few-step t old w = elim (ℕ_discrete r.worker w) [
    | yes q ↦
        let h : length (steps_in rs w) < steps_limit = subst (λ (v : ℕ). length (steps_in rs v) < steps_limit) q t.few in
        omega (arith, count-step t w)
    | no q ↦ omega (arith, old w, count-step t w)
  ]

  one_more : (qs : List Record) (w : ℕ) → length (steps_in (qs ++ one r) w) ≡ length (steps_in qs w) + length (cond (is_step_of w r) (one-step r) [])
  one_more qs w = ap length (steps_in-one qs r w) ∙ length-append (steps_in qs w) (cond (is_step_of w r) (one-step r) [])

  -- an earlier step stands where it stood
  stands-old : (w k : ℕ) → first_in (rs ++ one r) w ≡ first_in rs w → first_in rs w + k < length rs → k < length (steps_in rs w) → StepStands rs w k → StepStands (rs ++ one r) w k
  stands-old w k first h l old =
      let at : first_in (rs ++ one r) w + k ≡ first_in rs w + k = omega arith in
      let same = ap (λ (i : ℕ). get_or (rs ++ one r) i blank) at ∙ get_or-append rs (one r) blank (first_in rs w + k) h in
      record {
        step =
            ap (λ (ss : List Step). get_or ss k (sync exit)) (steps_in-one rs r w)
            ∙ (get_or-append (steps_in rs w) (cond (is_step_of w r) (one-step r) []) (sync exit) k l
            ∙ (old.step ∙ ap step_of (sym same)));
        of_worker = ap (λ (q : Record). is_step_of w q) same ∙ old.of_worker;
        behind =
            let e = ap (λ (i : ℕ). length (steps_in (drop (suc i) (rs ++ one r)) w)) at in
            let d = ap (λ (qs : List Record). length (steps_in qs w)) (drop-append-le (suc (first_in rs w + k)) rs (one r) h) in
            omega (arith, e, d, one_more (drop (suc (first_in rs w + k)) rs) w, one_more rs w, old.behind);
      }

  -- the new one is its worker's last
  stands-new : (w k : ℕ) → is_step_of w r ≡ true → k ≡ length (steps_in rs w) → first_in (rs ++ one r) w + k ≡ length rs → StepStands (rs ++ one r) w k
  unfolding steps_in
  stands-new w k own last at =
      let steps = steps_in-one rs r w ∙ ap (λ (b : Bool). steps_in rs w ++ cond b (one-step r) []) own in
      let same = get_or_at rs r [] blank (first_in (rs ++ one r) w + k) (sym at) in
      record {
        step =
            ap (λ (ss : List Step). get_or ss k (sync exit)) steps
            ∙ (get_or_at (steps_in rs w) (step_of r) [] (sync exit) k (sym last) ∙ ap step_of (sym same));
        of_worker = ap (λ (q : Record). is_step_of w q) same ∙ own;
        behind =
            let none = ap (λ (qs : List Record). length (steps_in qs w)) (drop_of_length-le (rs ++ one r) {i = suc (first_in (rs ++ one r) w + k)} (let n = length-one in omega arith)) in
            omega (arith, none, ap length steps, length-append (steps_in rs w) (one-step r));
      }

  placed-step : StepTaken rs r → Together rs → Placed rs → Placed (rs ++ one r)
  placed-step t old placed w k h =
      let level = t.level in
      let count = count-step t w in
      let first = first_step t w in
      let ends = old w in
      elim (dec_lt k (length (steps_in rs w))) [
        | yes l ↦
            let below : w ≤ r.worker
            = elim (dec_lt r.worker w) [
              | yes b ↦ absurd (let f₁ = first-unopened rs w (omega arith) in let f₂ = first-unopened rs (suc w) (omega arith) in omega arith)
              | no b ↦ omega arith
            ] in
            stands-old w k (omega arith) (let i = first-inside rs (suc w) in omega arith) l (placed w k l)
        | no l ↦
            let own : r.worker ≡ w = omega arith in
            let f₂ = first-unopened rs (suc w) (omega arith) in
            stands-new w k (ap (λ (b : Bool). b && eqb r.worker w) t.step ∙ eq-eqb r.worker w own) (omega arith) (omega arith)
      ]

  -- the sizes of barriers
  sized-more : (q : Record) → lacks_size rs q ≡ false → lacks_size (rs ++ one r) q ≡ false
  sized-more q e =
      ap (λ (n : Bool). eqb q.op op_barrier && not n) (any_of-one (names q.number) rs r)
      ∙ go (eqb q.op op_barrier) (any_of (names q.number) rs) (names q.number r) e
    where
      go : (a n t : Bool) → a && not n ≡ false → a && not (n || t) ≡ false
      go false n t e = refl
      go true true t e = refl
      go true false t e = absurd (true≢false e)

  fit-more : (n : ℕ) → (is_step r ≡ true → StepFits n (rs ++ one r) (length rs) r) → Fit n rs → Fit n (rs ++ one r)
  fit-more n new old i h e = elim (dec_lt i (length rs)) [
    | yes l ↦
        let same = get_or-append rs (one r) blank i l in
        let f = old i l (subst (λ (q : Record). is_step q ≡ true) same e) in
        subst⁻¹ (λ (q : Record). StepFits n (rs ++ one r) i q) same
        (record {
          inside = f.inside;
          sized = sized-more (get_or rs i blank) f.sized;
          ends = let g = first-grows rs r (suc (get_or rs i blank).worker) in let l = f.ends in omega arith;
        })
    | no l ↦
        let at : length rs ≡ i = let n = length-one in omega arith in
        let same = get_or_at rs r [] blank i at in
        subst⁻¹ (λ (q : Record). StepFits n (rs ++ one r) i q) same
        (subst (λ (j : ℕ). StepFits n (rs ++ one r) j r) at (new (subst (λ (q : Record). is_step q ≡ true) same e)))
  ]

  fits-new : StepTaken rs r → StepFits (workers_in rs) (rs ++ one r) (length rs) r
  fits-new t =
      record {
        inside = t.inside;
        sized = sized-more r t.sized;
        ends = let f = first_step t (suc r.worker) in let u = first-unopened rs (suc r.worker) t.level in omega arith;
      }

  sized-other : (b : ℕ) → names b r ≡ false → BarrierSized rs b → BarrierSized (rs ++ one r) b
  sized-other b n old =
      let same = size_in-other rs r b n in
      record {
        found =
            any_of-one (names b) rs r
            ∙ (or-fails (any_of (names b) rs) n ∙ (old.found ∙ ap (λ (k : ℕ). not (eqb k 0)) (sym same)));
        most = let h = old.most in omega arith;
      }

  sized_new : (b : ℕ) → BarrierTaken rs r → names b r ≡ true → BarrierSized (rs ++ one r) b
  sized_new b t n =
      let own = eqb-true r.register b (and_right (is_barrier r) (eqb r.register b) n) in
      let new = names-new rs b (let a = t.ascends in omega arith) in
      let size = size_in-new rs r b new n in
      let least = t.formed.least in
      record {
        found =
            any_of-one (names b) rs r
            ∙ (ap (λ (t : Bool). t || names b r) new ∙ (n ∙ ap not (sym (ne_eqb (size_in (rs ++ one r) b) 0 (λ z. omega arith)))));
        most = let h = t.formed.most in omega arith;
      }

  names-barrier : (b : ℕ) → is_barrier r ≡ false → names b r ≡ false
  names-barrier b e = ap (λ (t : Bool). t && eqb r.register b) e

-- a record that is neither step nor barrier, as the plan record
pub read_first : (r : Record) → is_barrier r ≡ false → is_step r ≡ false → Read (one r)
unfolding top_in first_in steps_in size_in any_of
read_first r b s =
    let together : Together [] = λ w. refl in
    record {
      opened = let same = top_in-kept is_step (λ r. r.worker) [] r s in omega arith;
      together = together-no-step [] r refl s together;
      placed = λ w k h. absurd (let z = no_steps [] r refl s together w in omega arith);
      few = λ w. let z = no_steps [] r refl s together w in omega arith;
      sized = λ n. sized-other [] r n (names-barrier [] r n b) (record { found = refl; most = omega arith });
      fit = fit-more [] r r.worker (λ e. absurd (true≢false (sym e ∙ s))) (λ i h. absurd (omega arith));
    }

-- a later record that its rule takes
pub read_more : (q : Record) (qs : List Record) (r : Record) → Read (q ∷ qs) → later_rule (q ∷ qs) r ≡ holds → Read ((q ∷ qs) ++ one r)
read_more q qs r old e = ⊎_elim barrier (⊎_elim sleep step) (later-taken rs r e)
  where
    rs : List Record
    rs = q ∷ qs

    -- before the steps
    head : opened_in rs ≡ 0 → is_step r ≡ false → ((b : ℕ) → BarrierSized (rs ++ one r) b) → Read (rs ++ one r)
    head unopened no_step sized =
        let none = no_steps rs r unopened no_step old.together in
        record {
          opened = let same = top_in-kept is_step (λ r. r.worker) rs r no_step in let h = old.opened in omega arith;
          together = together-no-step rs r unopened no_step old.together;
          placed = λ w k h. absurd (let z = none w in omega arith);
          few = λ w. let z = none w in omega arith;
          sized = sized;
          fit = fit-more rs r (workers_in rs) (λ s. absurd (true≢false (sym s ∙ no_step))) old.fit;
        }

    barrier : BarrierTaken rs r → Read (rs ++ one r)
    barrier t =
        head t.unopened t.no_step (λ b. split (names b r) (λ n. sized_new rs r b t n) (λ n. sized-other rs r b n (old.sized b)))

    sleep : SleepTaken rs r → Read (rs ++ one r)
    sleep t = head t.unopened t.no_step (λ b. sized-other rs r b (names-barrier rs r b t.no_barrier) (old.sized b))

    step : StepTaken rs r → Read (rs ++ one r)
    step t =
        record {
          opened = let same = top_in-raised is_step (λ r. r.worker) rs r t.step t.level in let h = t.below in omega arith;
          together = together-step rs r t old.together;
          placed = placed-step rs r t old.together old.placed;
          few = few-step rs r t old.few;
          sized = λ b. sized-other rs r b (names-barrier rs r b t.no_barrier) (old.sized b);
          fit = fit-more rs r (workers_in rs) (λ s. fits-new rs r t) old.fit;
        }
