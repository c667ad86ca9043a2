-- A file is accepted just when it is well-formed, and a run just when it is runnable.
use Prim.Native.Nat.{ℕ, zero, suc, ◌+◌, ◌<◌, ◌≤◌}
use mathlib.Core.Bool.{Bool, true, false, cond, ◌&&◌, false≢true}
use mathlib.Core.Path.{◌≡◌, refl, sym, ap, ◌∙◌, subst, subst⁻¹}
use mathlib.Core.Logic.{inl, inr, ⊎_elim, ◌↔◌}
use mathlib.Core.List.{List, [], ◌∷◌, ◌++◌}
use native.Mathlib.Omega.{arith}
use native.Mathlib.Decide.{ℕ_discrete, dec_lt}
use lib.Dec.{eqb}
use lib.ListN.{length, get_or, take, drop, length-append, take-append-drop}
use lib.Seq.{drop-cons}
use borrow.Author.Tests.{eqb-true, eq-eqb}
use Rattle.protocol.specs.Format.{Record, Row, record_count, records, plan_of, row_in, known, is_barrier, is_sleep, is_step, workers_in, steps_in, step_of}
use Rattle.protocol.specs.Refusals.{Verdict, accepted, length_rule, check_records, check}
use Rattle.protocol.specs.Turns.{workers_of}
use Rattle.protocol.specs.Calls.{Buffers, misfit, turns_limit, run_verdict}
use Rattle.protocol.specs.WellFormed.{blank, record_at, PlanRecord, BarrierRecord, SleepRecord, StepRecord, FormedRecords, WellFormed, Runnable}
use Rattle.protocol.specs.Conditions.{LengthAmiss, NoPlan, BarrierAmiss, SleepAmiss, UnknownOp, WorkerAmiss, StepBeyond, OperandOutside, SizeMissing, SkipBeyond, Test, record_tests, skip_tests}
use Rattle.protocol.specs.Conditions.{over, file_tests, run_tests, FirstDue}
use Rattle.protocol.proofs.Bools.{split}
use Rattle.protocol.proofs.Records.{steps_in-append}
use Rattle.protocol.proofs.Accepted.{accepts, length-ruled, length-records}
use Rattle.protocol.proofs.Covered.{row-known, start-known}
use Rattle.protocol.proofs.FirstDue.{check-first, run-first, fitting, misfitting}
use Rattle.protocol.proofs.Described.{formed}

-- ---- of a well-formed file no test is due

abbrev NoneDue : List Test → Type 0
NoneDue [] = Unit {0}
NoneDue (t ∷ ts) = (t.due → ⊥) × NoneDue ts

decided : (ts : List Test) (v : Verdict) → FirstDue ts v → NoneDue ts → v ≡ accepted
unfolding FirstDue
decided [] v e n = e
decided (t ∷ ts) v e n = ⊎_elim (λ d. absurd (n.0 d.0)) (λ d. decided ts v d.1 n.1) e

none-due : (ts : List Test) (v : Verdict) → FirstDue ts v → v ≡ accepted → NoneDue ts
unfolding FirstDue
none-due [] v e ok = tt
none-due (t ∷ ts) v e ok =
    ⊎_elim (λ d. absurd (let z : ◌≡◌ {A = ℕ} 0 1 = cc d.1 in omega arith)) (λ d. (d.0, none-due ts v d.1 ok)) e

none-append : (ts us : List Test) → NoneDue ts → NoneDue us → NoneDue (ts ++ us)
none-append [] us n m = m
none-append (t ∷ ts) us n m = (n.0, none-append ts us n.1 m)

none_left_over : (ts us : List Test) → NoneDue (ts ++ us) → NoneDue ts
none_left_over [] us n = tt
none_left_over (t ∷ ts) us n = (n.0, none_left_over ts us n.1)

none_right : (ts us : List Test) → NoneDue (ts ++ us) → NoneDue us
none_right [] us n = n
none_right (t ∷ ts) us n = none_right ts us n.1

none_over : (tests : ℕ → List Test) (k i : ℕ) → ((j : ℕ) → j < i + k → NoneDue (tests j)) → NoneDue (over tests k i)
unfolding over
none_over tests zero i n = tt
none_over tests (suc k) i n =
    none-append (tests i) (over tests k (suc i)) (n i (omega arith)) (none_over tests k (suc i) (λ j h. n j (omega arith)))

module _ (rs : List Record) (f : FormedRecords rs) (i : ℕ) (h : i < length rs) where
  abbrev r : Record
  r = record_at rs i

  not_known : (o : ℕ) → known o ≡ false → r.op ≡ o → is_step r ≡ true → ⊥
  not_known o u e s = false≢true (sym u ∙ (ap known (sym e) ∙ s))

  -- a record that is no plan record is a later one
  is_later : (r.op ≡ 0 → ⊥) → 1 ≤ i
  is_later z = elim (dec_lt 0 i) [
    | yes l ↦ l
    | no l ↦ absurd (z (subst (λ (k : ℕ). (record_at rs k).op ≡ 0) (let e : ◌≡◌ {A = ℕ} 0 i = omega arith in e) f.first.op))
  ]

  pub is-step : is_step r ≡ true → StepRecord (workers_in rs) r
  unfolding known row_in
  is-step s =
      ⊎_elim (λ b. absurd (not_known 1 refl b.op s)) (⊎_elim (λ d. absurd (not_known 2 refl d.op s)) (λ t. t))
      (f.later i (is_later (λ z. not_known 0 refl z s)) h)

  of_row : StepRecord (workers_in rs) r → is_step r ≡ true
  of_row t = row-known r.op t.row t.of_table

  is-barrier : is_barrier r ≡ true → BarrierRecord r
  unfolding known row_in
  is-barrier b =
      let one = eqb-true r.op 1 b in
      ⊎_elim (λ t. t) (⊎_elim (λ d. absurd (let two = d.op in omega arith)) (λ t. absurd (not_known 1 refl one (of_row t))))
      (f.later i (is_later (λ z. omega arith)) h)

  is-sleep : is_sleep r ≡ true → SleepRecord (workers_in rs) r
  unfolding known row_in
  is-sleep b =
      let two = eqb-true r.op 2 b in
      ⊎_elim (λ t. absurd (let one = t.op in omega arith)) (⊎_elim (λ d. d) (λ t. absurd (not_known 2 refl two (of_row t))))
      (f.later i (is_later (λ z. omega arith)) h)

  no-plan : NoPlan i r → ⊥
  unfolding known row_in
  no-plan =
      ⊎_elim (λ d. d.1 (subst⁻¹ (λ (k : ℕ). PlanRecord (record_at rs k)) d.0 f.first))
      (λ d.
      ⊎_elim (λ b. let one = b.op in let z = d.1 in omega arith)
      (⊎_elim (λ b. let two = b.op in let z = d.1 in omega arith) (λ s. not_known 0 refl d.1 (of_row s)))
      (f.later i d.0 h))

  no-barrier : BarrierAmiss rs i r → ⊥
  no-barrier d =
      ⊎_elim (λ k. let l = f.ascending k.0 i k.1 h k.2.0 d.0 in let m = k.2.1 in omega arith)
      (⊎_elim (λ k. ⊎_elim (λ s. f.barriers_first k.0 i k.1 h s d.0) (λ s. f.steps_last k.0 i k.1 h s (inl d.0)) k.2)
      (λ amiss. amiss (is-barrier d.0)))
      d.1

  no-sleep : SleepAmiss rs i r → ⊥
  no-sleep d =
      ⊎_elim (λ k. let l = f.sleepers_ascend k.0 i k.1 h k.2.0 d.0 in let m = k.2.1 in omega arith)
      (⊎_elim (λ k. f.steps_last k.0 i k.1 h k.2 (inr d.0)) (λ amiss. amiss (is-sleep d.0)))
      d.1

  no-unknown : UnknownOp r → ⊥
  no-unknown d =
      ⊎_elim (λ b. false≢true (sym d.1 ∙ eq-eqb r.op 1 b.op))
      (⊎_elim (λ b. false≢true (sym d.2 ∙ eq-eqb r.op 2 b.op)) (λ s. false≢true (sym d.3 ∙ of_row s)))
      (f.later i (is_later d.0) h)

  no-worker : WorkerAmiss rs i r → ⊥
  no-worker d =
      ⊎_elim (λ l. let b = (is-step d.0).worker in omega arith)
      (λ k. let l = f.rising k.0 i k.1 h k.2.0 d.0 in let m = k.2.1 in omega arith)
      d.1

  no-beyond : StepBeyond rs i r → ⊥
  unfolding steps_in
  no-beyond d =
      let w = r.worker in
      let parts = ap (λ (l : List Record). length (steps_in l w)) (sym (ap (λ (l : List Record). take i rs ++ l) (sym (drop-cons rs i blank h)) ∙ take-append-drop i rs)) in
      let sum = ap length (steps_in-append (take i rs) (r ∷ drop (suc i) rs) w) ∙ length-append (steps_in (take i rs) w) (steps_in (r ∷ drop (suc i) rs) w) in
      let here = ap (λ (b : Bool). length (cond (b && eqb w w) (step_of r ∷ steps_in (drop (suc i) rs) w) (steps_in (drop (suc i) rs) w))) d.0
      ∙ ap (λ (b : Bool). length (cond b (step_of r ∷ steps_in (drop (suc i) rs) w) (steps_in (drop (suc i) rs) w))) (eq-eqb w w refl) in
      omega (arith, f.few w, parts, sum, here, d.1)

  no_operand : OperandOutside rs r → ⊥
  no_operand =
      ⊎_elim
      (λ d.
      let s = is-step (row-known r.op d.0 d.1) in
      let same : d.0 ≡ s.row = cc (d.1, s.of_table) in
      let register = subst⁻¹ (λ (x : Row). r.register ≤ x.registers) same s.register in
      let least = subst⁻¹ (λ (x : Row). x.least ≤ r.number) same s.least in
      let most = subst⁻¹ (λ (x : Row). r.number ≤ x.most) same s.most in
      ⊎_elim (λ l. omega arith) (⊎_elim (λ l. omega arith) (λ l. omega arith)) d.2)
      (λ d. let l = (is-step (start-known r d.0)).target d.0 in let m = d.1 in omega arith)

  has_size : SizeMissing rs i r → ⊥
  unfolding known row_in
  has_size d =
      let k = f.sized i h d.0 in
      let l = k.1 in
      elim (dec_lt k.0 i) [
        | yes b ↦ d.1 (k.0, b, (k.2, omega (arith, k.3)))
        | no b ↦ elim (ℕ_discrete k.0 i) [
          | yes e ↦
              let one = eqb-true r.op 1 (subst (λ (j : ℕ). is_barrier (record_at rs j) ≡ true) e k.2) in
              let o = d.0 in
              omega arith
          | no e ↦ f.steps_last i k.0 (omega arith) l (ap known d.0) (inl k.2)
        ]
      ]

  none-record : NoneDue (record_tests rs i)
  none-record = (
    λ d. d (f.marked i h),
    (no-plan, (no-barrier, (no-sleep, (no-unknown, (no-worker, (no-beyond, (no_operand, (has_size, tt)))))))),
  )

  none-skip : NoneDue (skip_tests rs i)
  none-skip = (λ (d : SkipBeyond rs i r). let l = f.skips i h d.0 in let m = d.1 in omega arith, tt)

no_length : (file : List ℕ) → WellFormed file → LengthAmiss file → ⊥
no_length file w =
    let whole = w.whole in
    let some = w.some in
    let most = w.most in
    ⊎_elim (λ z. omega arith) (⊎_elim (λ m. m (omega arith)) (λ m. omega arith))

none-file : (file : List ℕ) → WellFormed file → NoneDue (file_tests file)
none-file file w =
    let n = length-records file in (
      no_length file w,
      none-append (over (record_tests (records file)) (record_count file) 0) (over (skip_tests (records file)) (record_count file) 0)
          (none_over (record_tests (records file)) (record_count file) 0 (λ j h. none-record (records file) w.formed j (omega arith)))
          (none_over (skip_tests (records file)) (record_count file) 0 (λ j h. none-skip (records file) w.formed j (omega arith))),
    )

-- ---- both ways

accepted-formed : (file : List ℕ) → check file ≡ accepted → WellFormed file
unfolding check
accepted-formed file e =
    let t = accepts (length_rule (length file)) 0 (check_records [] (records file)) e in
    let l = length-ruled file t.0 in
    let some = l.some in
    let most = l.most in
    let bytes = l.bytes in
    let n = length-records file in
    record { whole = bytes; some = some; most = omega arith; formed = formed (records file) (λ z. omega arith) t.1 }

-- A file is accepted just when it is well-formed.
pub well-formed : (file : List ℕ) → (check file ≡ accepted) ↔ WellFormed file
well-formed file = (accepted-formed file, λ w. decided (file_tests file) (check file) (check-first file) (none-file file w))

-- A run is accepted just when it is runnable.
accepted-runnable : (file turns : List ℕ) (b : Buffers) → run_verdict file turns b ≡ accepted → Runnable file turns b
accepted-runnable file turns b ok =
    record {
      buffers = split (misfit b) (λ e. absurd (n.0 (misfitting b e))) (fitting b);
      short = elim (dec_lt turns_limit (length turns)) [ yes l ↦ absurd (n.1.0 l) | no l ↦ omega arith ];
      well_formed =
          accepted-formed file
          (decided (file_tests file) (check file) (check-first file) (none_left_over (file_tests file) _ n.1.1));
      named =
          λ k h.
          elim (dec_lt (get_or turns k 0) (workers_of (plan_of file))) [
            | yes l ↦ l
            | no l ↦ absurd ((none_right (file_tests file) _ n.1.1).0 (k, h, omega arith))
          ];
    }
  where
    n : NoneDue (run_tests file turns b)
    n = none-due (run_tests file turns b) (run_verdict file turns b) (run-first file turns b) ok

none-run : (file turns : List ℕ) (b : Buffers) → Runnable file turns b → NoneDue (run_tests file turns b)
none-run file turns b r = (
  λ amiss. amiss r.buffers,
  (
    λ l. let s = r.short in omega arith,
    none-append (file_tests file) _ (none-file file r.well_formed)
        (λ (d : (k : ℕ) × (k < length turns) × (workers_of (plan_of file) ≤ get_or turns k 0)). let l = r.named d.0 d.1 in let m = d.2 in omega arith, tt),
  ),
)

pub runnable : (file turns : List ℕ) (b : Buffers) → (run_verdict file turns b ≡ accepted) ↔ Runnable file turns b
runnable file turns b = (
  accepted-runnable file turns b,
  λ r. decided (run_tests file turns b) (run_verdict file turns b) (run-first file turns b) (none-run file turns b r),
)

-- An accepted run's file is accepted.
pub run-file : (file turns : List ℕ) (b : Buffers) → run_verdict file turns b ≡ accepted → check file ≡ accepted
run-file file turns b ok = (well-formed file).1 ((runnable file turns b).0 ok).well_formed
