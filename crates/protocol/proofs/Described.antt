-- What the records of an accepted file are: formed as `WellFormed` says.
use Prim.Native.Nat.{ℕ, zero, suc, ◌<◌, ◌≤◌}
use mathlib.Core.Bool.{Bool, true, false, not, ◌&&◌, false≢true}
use mathlib.Core.Path.{◌≡◌, refl, sym, ap, ◌∙◌, subst, subst⁻¹}
use mathlib.Core.Logic.{◌⊎◌, inl, inr, ⊎_elim}
use mathlib.Core.List.{List, [], ◌∷◌, ◌++◌, append_assoc, append-nil}
use native.Mathlib.Omega.{arith}
use lib.Dec.{leb, eqb}
use lib.ListN.{length, take, length-take}
use lib.Seq.{get_or-take}
use borrow.Author.Tests.{ltb-false, leb-false, le-ltb, eqb-true, not-false, eq-eqb}
use Rattle.protocol.specs.Ops.{op_barrier}
use Rattle.protocol.specs.Format.{Record, plan_mark, is_barrier, is_sleep, is_step, is_skip, workers_in}
use Rattle.protocol.specs.Refusals.{bad_mark, accepted, holds, any_of, plan_rule, later_rule, record_rule, skip_too_far, skip_rule, check_records, wrong_plan, bad_plan}
use Rattle.protocol.specs.WellFormed.{blank, record_at, PlanRecord, BarrierRecord, SleepRecord, StepRecord, steps_behind, FormedRecords}
use Rattle.protocol.proofs.Bools.{and_left, and_right}
use Rattle.protocol.proofs.Records.{one, top_in, any-reaches, picks, opened_in, names}
use Rattle.protocol.proofs.Taken.{rule-parts, plan-record, BarrierTaken, SleepTaken, StepTaken, Taken, later-taken}
use Rattle.protocol.proofs.Accepted.{accepts, accepted-records}
use Rattle.protocol.proofs.Covered.{any-there, any_none, known-row, operands-inside}

-- ---- what an accepted file's records are: each rule holds, of the records before its own

rules-hold : (before rest : List Record) → check_records before rest ≡ accepted → (i : ℕ) → i < length rest
    → record_rule (before ++ take i rest) (record_at rest i) ≡ holds
unfolding check_records
rules-hold before [] e i h = absurd (omega arith)
rules-hold before (r ∷ rest) e zero h =
    subst⁻¹ (λ (rs : List Record). record_rule rs r ≡ holds) (append-nil before) (accepts (record_rule before r) (length before) _ e).0
rules-hold before (r ∷ rest) e (suc i) h =
    subst (λ (rs : List Record). record_rule rs (record_at rest i) ≡ holds) (append_assoc before (one r) (take i rest))
    (rules-hold (before ++ one r) rest (accepts (record_rule before r) (length before) _ e).1 i (omega arith))

rule-mark : (before : List Record) (r : Record) → record_rule before r ≡ holds → r.mark ≡ plan_mark
unfolding record_rule
rule-mark [] r e = eqb-true r.mark plan_mark (not-false _ (rule-parts (not (eqb r.mark plan_mark)) bad_mark (plan_rule r) e).0)
rule-mark (q ∷ qs) r e = eqb-true r.mark plan_mark (not-false _ (rule-parts (not (eqb r.mark plan_mark)) bad_mark (later_rule (q ∷ qs) r) e).0)

step-record : (before : List Record) (r : Record) → StepTaken before r → StepRecord (workers_in before) r
step-record before r t =
    let x = known-row r.op t.step in
    let inside = operands-inside (workers_in before) r x.0 x.1 t.inside in
    record {
      row = x.0;
      of_table = x.1;
      worker = t.below;
      register = inside.register;
      least = inside.least;
      most = inside.most;
      target = inside.target;
    }

module _ (q : Record) (qs : List Record) (ok : check_records [] (q ∷ qs) ≡ accepted) where
  abbrev rs : List Record
  rs = q ∷ qs

  first-rule : plan_rule q ≡ holds
  unfolding record_rule
  first-rule = (rule-parts (not (eqb q.mark plan_mark)) bad_mark (plan_rule q) (rules-hold [] rs ok 0 (omega arith))).1

  taken : (i : ℕ) → 1 ≤ i → i < length rs → Taken (take i rs) (record_at rs i)
  unfolding record_rule
  taken zero l h = absurd (omega arith)
  taken (suc i) l h =
      later-taken (q ∷ take i qs) (record_at qs i)
      (rule-parts (not (eqb (record_at qs i).mark plan_mark)) bad_mark (later_rule (q ∷ take i qs) (record_at qs i)) (rules-hold [] rs ok (suc i) h)).1

  taken-barrier : (i : ℕ) → 1 ≤ i → i < length rs → is_barrier (record_at rs i) ≡ true → BarrierTaken (take i rs) (record_at rs i)
  taken-barrier i l h b =
      ⊎_elim (λ t. t) (⊎_elim (λ t. absurd (false≢true (sym t.no_barrier ∙ b))) (λ t. absurd (false≢true (sym t.no_barrier ∙ b)))) (taken i l h)

  taken-sleep : (i : ℕ) → 1 ≤ i → i < length rs → is_sleep (record_at rs i) ≡ true → SleepTaken (take i rs) (record_at rs i)
  taken-sleep i l h s =
      ⊎_elim (λ t. absurd (let one = eqb-true (record_at rs i).op 1 t.barrier in let two = eqb-true (record_at rs i).op 2 s in omega arith))
      (⊎_elim (λ t. t) (λ t. absurd (false≢true (sym t.no_sleep ∙ s))))
      (taken i l h)

  taken_step : (i : ℕ) → 1 ≤ i → i < length rs → is_step (record_at rs i) ≡ true → StepTaken (take i rs) (record_at rs i)
  taken_step i l h s =
      ⊎_elim (λ t. absurd (false≢true (sym t.no_step ∙ s))) (⊎_elim (λ t. absurd (false≢true (sym t.no_step ∙ s))) (λ t. t)) (taken i l h)

  within : (i j : ℕ) → i < j → j < length rs → i < length (take j rs)
  within i j l h = let e = length-take j rs in omega arith

  -- a test that holds of no record before record j
  none_before : (t : Record → Bool) (i j : ℕ) → i < j → j < length rs → any_of t (take j rs) ≡ false → t (record_at rs i) ≡ false
  none_before t i j l h e =
      subst (λ (r : Record). t r ≡ false) (get_or-take j rs i blank l) (any_none t (take j rs) blank e i (within i j l h))

  not-both : (a b : Bool) → a && b ≡ false → a ≡ true → b ≡ false
  not-both a b e h = sym (ap (λ (t : Bool). t && b) h) ∙ e

  -- of one kind, records ascend by a number
  higher-later : (kind : Record → Bool) (number : Record → ℕ) (k i j : ℕ) → i < j → j < length rs → top_in kind number (take j rs) ≤ k
      → kind (record_at rs i) ≡ true → number (record_at rs i) < k
  higher-later kind number k i j l h top b =
      leb-false _ _
      (not-both (kind (record_at rs i)) _ (none_before (λ p. kind p && leb k (number p)) i j l h (any-reaches kind number k (take j rs) ∙ le-ltb _ _ top)) b)

  ascending : (i j : ℕ) → i < j → j < length rs → is_barrier (record_at rs i) ≡ true → is_barrier (record_at rs j) ≡ true
      → (record_at rs i).register < (record_at rs j).register
  ascending i j l h b c = higher-later is_barrier (λ p. p.register) (record_at rs j).register i j l h (taken-barrier j (omega arith) h c).ascends b

  sleepers-ascend : (i j : ℕ) → i < j → j < length rs → is_sleep (record_at rs i) ≡ true → is_sleep (record_at rs j) ≡ true
      → (record_at rs i).worker < (record_at rs j).worker
  sleepers-ascend i j l h b c = higher-later is_sleep (λ p. p.worker) (record_at rs j).worker i j l h (taken-sleep j (omega arith) h c).ascends b

  barriers-first : (i j : ℕ) → i < j → j < length rs → is_sleep (record_at rs i) ≡ true → is_barrier (record_at rs j) ≡ true → ⊥
  barriers-first i j l h s c = false≢true (sym (none_before is_sleep i j l h (taken-barrier j (omega arith) h c).no_sleeper) ∙ s)

  -- while no worker has a step, no step stands before record j
  no-step-before : (i j : ℕ) → i < j → j < length rs → opened_in (take j rs) ≡ 0 → is_step (record_at rs i) ≡ true → ⊥
  no-step-before i j l h unopened s =
      false≢true (sym (none_before is_step i j l h (picks is_step (λ p. p.worker) (take j rs) ∙ le-ltb 0 (opened_in (take j rs)) (omega arith))) ∙ s)

  steps-last : (i j : ℕ) → i < j → j < length rs → is_step (record_at rs i) ≡ true
      → (is_barrier (record_at rs j) ≡ true) ⊎ (is_sleep (record_at rs j) ≡ true) → ⊥
  steps-last i j l h s =
      ⊎_elim (λ c. no-step-before i j l h (taken-barrier j (omega arith) h c).unopened s)
      (λ c. no-step-before i j l h (taken-sleep j (omega arith) h c).unopened s)

  rising : (i j : ℕ) → i < j → j < length rs → is_step (record_at rs i) ≡ true → is_step (record_at rs j) ≡ true
      → (record_at rs i).worker ≤ (record_at rs j).worker
  rising i j l h s c =
      let t = taken_step j (omega arith) h c in
      let lower = higher-later is_step (λ p. p.worker) (suc (record_at rs j).worker) i j l h t.level s in
      omega arith

  first-is : PlanRecord q
  unfolding plan_rule
  first-is = plan-record q (rule-parts (wrong_plan q) bad_plan holds first-rule).0

  later : (i : ℕ) → 1 ≤ i → i < length rs
      → BarrierRecord (record_at rs i) ⊎ (SleepRecord (workers_in rs) (record_at rs i) ⊎ StepRecord (workers_in rs) (record_at rs i))
  later zero l h = absurd (omega arith)
  later (suc i) l h =
      ⊎_elim (λ t. inl t.formed) (⊎_elim (λ t. inr (inl t.formed)) (λ t. inr (inr (step-record (take (suc i) rs) _ t)))) (taken (suc i) l h)

  sized : (j : ℕ) → j < length rs → (record_at rs j).op ≡ op_barrier
      → (i : ℕ) × (i < length rs) × (is_barrier (record_at rs i) ≡ true) × ((record_at rs i).register ≡ (record_at rs j).number)
  sized zero h o = absurd (let z = first-is.op in omega arith)
  sized (suc j) h o =
      ⊎_elim (λ t. absurd (let z = eqb-true (record_at rs (suc j)).op 1 t.barrier in omega arith))
      (⊎_elim (λ t. absurd (let z = eqb-true (record_at rs (suc j)).op 2 t.sleep in omega arith)) named)
      (taken (suc j) (omega arith) h)
    where
      named : StepTaken (take (suc j) rs) (record_at rs (suc j))
          → (i : ℕ) × (i < length rs) × (is_barrier (record_at rs i) ≡ true) × ((record_at rs i).register ≡ (record_at rs (suc j)).number)
      named t =
          let r = record_at rs (suc j) in
          let s = any-there (names r.number) (take (suc j) rs) blank (not-false _ (not-both (eqb r.op op_barrier) _ t.sized (eq-eqb _ _ o))) in
          let n = length-take (suc j) rs in
          let l = s.1 in
          let q = record_at rs s.0 in
          let e = subst (λ (p : Record). names r.number p ≡ true) (get_or-take (suc j) rs s.0 blank (omega arith)) s.2 in
          (s.0, omega arith, and_left (is_barrier q) _ e, omega (arith, eqb-true q.register r.number (and_right (is_barrier q) _ e)))

  formed-records : FormedRecords (q ∷ qs)
  unfolding skip_rule
  formed-records =
      let a = accepted-records rs (λ z. omega arith) ok in
      record {
        marked = λ i h. rule-mark (take i rs) (record_at rs i) (rules-hold [] rs ok i h);
        first = first-is;
        later = later;
        ascending = ascending;
        sleepers_ascend = sleepers-ascend;
        barriers_first = barriers-first;
        steps_last = steps-last;
        rising = λ i j l h s c. omega (arith, rising i j l h s c);
        few = a.read.few;
        sized = λ j h o. let s = sized j h o in (s.0, s.1, s.2, omega (arith, s.3));
        skips =
            λ i h s.
            omega (arith, ltb-false (steps_behind rs i (record_at rs i)) (record_at rs i).number (not-both (is_skip (record_at rs i).op) _ (rule-parts _ skip_too_far holds (a.skips i h)).0 s));
      }

pub formed : (rs : List Record) → (length rs ≡ 0 → ⊥) → check_records [] rs ≡ accepted → FormedRecords rs
formed [] n e = absurd (n refl)
formed (q ∷ qs) n e = formed-records q qs e
