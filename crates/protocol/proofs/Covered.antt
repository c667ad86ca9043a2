-- The rule of a record stands for the record's tests: it names the first that is due.
use Prim.Native.Nat.{ℕ, zero, suc, ◌<◌, ◌≤◌}
use mathlib.Core.Bool.{Bool, true, false, cond, not, ◌&&◌, ◌||◌, false≢true}
use mathlib.Core.Path.{◌≡◌, refl, sym, ap, ◌∙◌, subst, subst⁻¹}
use mathlib.Core.Logic.{◌⊎◌, inl, inr, ⊎_elim}
use mathlib.Core.List.{List, [], ◌∷◌, ◌++◌}
use mathlib.Core.Option.{Option, none, some}
use native.Mathlib.Omega.{arith}
use lib.Dec.{leb, ltb, eqb}
use lib.ListN.{length, get_or, take, get_or-append}
use lib.Seq.{get_or-append_seam, take-append_seam}
use borrow.Author.Tests.{ltb-true, ltb-false, leb-true, leb-false, eqb-true, eqb-false, not-true, not-false, lt-ltb, le-ltb, le-leb, lt-leb, eq-eqb, ne_eqb}
use Rattle.protocol.specs.Ops.{op_barrier, op_start}
use Rattle.protocol.specs.Format.{Record, Row, plan_mark, row_in, row_of, known, is_barrier, is_sleep, is_step, workers_in, steps_in, barrier_count, size_limit, steps_limit, workers_limit}
use Rattle.protocol.specs.Refusals.{Refusal, bad_mark, bad_plan, bad_barrier, bad_sleep, bad_worker, bad_op, bad_operand, too_many_steps, no_size, Verdict}
use Rattle.protocol.specs.Refusals.{accepted, Rule, holds, refuse_if, ruled, any_of}
use Rattle.protocol.specs.Refusals.{outside, wrong_plan, plan_rule, misplaced, is_behind_barriers, wrong_barrier, wrong_sleep, starts_nobody, wrong_operand}
use Rattle.protocol.specs.Refusals.{wrong_worker, lacks_size, barrier_record_rule}
use Rattle.protocol.specs.Refusals.{sleep_record_rule, operands_outside, step_rule, later_rule, record_rule}
use Rattle.protocol.specs.WellFormed.{blank, PlanRecord, BarrierRecord, SleepRecord}
use Rattle.protocol.specs.Conditions.{NoMark, Before, BarrierAmiss, SleepAmiss, UnknownOp, WorkerAmiss, StepBeyond, OperandOutside, SizeMissing, Test, test, tests_of, record_tests, FirstDue}
use Rattle.protocol.proofs.Bools.{split, or-holds, or_left, or_right, and_left, and_right}
use Rattle.protocol.proofs.Records.{names}
use Rattle.protocol.proofs.Taken.{barrier-no-step, sleep-no-step, plan-record, barrier-record, sleep-record}

pub nothing-due : FirstDue [] accepted
unfolding FirstDue
nothing-due = refl

-- a rule of index i stands for some tests: whatever tests and verdict come behind, the first that is due decides
pub record Covers (ts : List Test) (rule : Rule) (i : ℕ) : Type 1 where
  pub decides : (rest : List Test) (next : Verdict) → FirstDue rest next → FirstDue (ts ++ rest) (ruled rule i next)

pub covers-none : (i : ℕ) → Covers [] holds i
covers-none i = record { decides = λ rest next h. h }

-- a test by a Bool, which says whether it is due; where it is not, the tests behind it decide
pub covers : (b : Bool) (f : Refusal) (next : Rule) {i : ℕ} {c : Type 0} {ts : List Test}
    → (b ≡ true → c) → (b ≡ false → c → ⊥) → (b ≡ false → Covers ts next i) → Covers (test f i c ∷ ts) (refuse_if b f next) i
unfolding FirstDue
covers true f next due not-due more = record { decides = λ rest v h. inl (due refl, refl) }
covers false f next due not-due more = record { decides = λ rest v h. inr (not-due refl, (more refl).decides rest v h) }

-- a test that is not due, whatever the rule
pub passes-by : {f : Refusal} {c : Type 0} {ts : List Test} {rule : Rule} {i : ℕ} → (c → ⊥) → Covers ts rule i → Covers (test f i c ∷ ts) rule i
unfolding FirstDue
passes-by not-due more = record { decides = λ rest v h. inr (not-due, more.decides rest v h) }

-- ---- what stands before a record

pub any-there : {A : Type 0} (t : A → Bool) (l : List A) (d : A) → any_of t l ≡ true → (k : ℕ) × (k < length l) × (t (get_or l k d) ≡ true)
unfolding any_of
any-there t [] d e = absurd (false≢true e)
any-there t (x ∷ l) d e =
    split (t x) (λ p. (0, omega arith, p))
    (λ p. let h = any-there t l d (ap (λ (b : Bool). b || any_of t l) (sym p) ∙ e) in (suc h.0, omega (arith, h.1), h.2))

pub any_none : {A : Type 0} (t : A → Bool) (l : List A) (d : A) → any_of t l ≡ false → (k : ℕ) → k < length l → t (get_or l k d) ≡ false
unfolding any_of
any_none t [] d e k h = absurd (omega arith)
any_none t (x ∷ l) d e zero h = or_left (t x) (any_of t l) e
any_none t (x ∷ l) d e (suc k) h = any_none t l d (or_right (t x) e) k (omega arith)

-- ---- one record: its rule stands for its tests

pub or_cases : (a b : Bool) → a || b ≡ true → (a ≡ true) ⊎ (b ≡ true)
or_cases true b e = inl refl
or_cases false b e = inr e

and-true : {a b : Bool} → a ≡ true → b ≡ true → a && b ≡ true
and-true {a} {b} p q = ap (λ (t : Bool). t && b) p ∙ q

pub known-row : (o : ℕ) → known o ≡ true → (x : Row) × (row_of o ≡ some x)
unfolding known
known-row o e = go (row_of o) refl e
  where
    go : (x : Option Row) → row_of o ≡ x → elim x [ none ↦ false | some y ↦ true ] ≡ true → (y : Row) × (row_of o ≡ some y)
    go none p q = absurd (false≢true q)
    go (some y) p q = (y, p)

pub row-known : (o : ℕ) (x : Row) → row_of o ≡ some x → known o ≡ true
unfolding known
row-known o x e = ap (λ (y : Option Row). elim y [ none ↦ false | some z ↦ true ]) e

pub start-known : (r : Record) → r.op ≡ op_start → is_step r ≡ true
unfolding known row_in
start-known r e = ap known e

-- operands that are in the ranges of their row, and a start that names one of n workers
pub record Inside (n : ℕ) (r : Record) (x : Row) : Type 0 where
  pub register : r.register ≤ x.registers
  pub least : x.least ≤ r.number
  pub most : r.number ≤ x.most
  pub target : r.op ≡ op_start → r.number < n

pub operands-inside : (n : ℕ) (r : Record) (x : Row) → row_of r.op ≡ some x → wrong_operand n r ≡ false → Inside n r x
unfolding operands_outside
operands-inside n r x row e =
    let ranges = operands_outside (row_of r.op) r.register r.number in
    let t = ap (λ (o : Option Row). operands_outside o r.register r.number) (sym row) ∙ or_left ranges (starts_nobody n r) e in
    let u = or_right (ltb x.registers r.register) t in
    record {
      register = ltb-false x.registers r.register (or_left (ltb x.registers r.register) _ t);
      least = ltb-false r.number x.least (or_left (ltb r.number x.least) _ u);
      most = ltb-false x.most r.number (or_right (ltb r.number x.least) u);
      target = λ s. leb-false n r.number (sym (ap (λ (b : Bool). b && leb n r.number) (eq-eqb _ _ s)) ∙ or_right ranges e);
    }

mark-due : (r : Record) → not (eqb r.mark plan_mark) ≡ true → NoMark r
mark-due r e = eqb-false r.mark plan_mark (not-true _ e)

mark-right : (r : Record) → not (eqb r.mark plan_mark) ≡ false → NoMark r → ⊥
mark-right r e amiss = amiss (eqb-true r.mark plan_mark (not-false _ e))

-- the tests of steps, behind those of a record that is none
module _ (rs : List Record) (i : ℕ) (r : Record) where
  -- the last five of a record's tests
  abbrev step_tests : List Test
  step_tests =
      test bad_op i (UnknownOp r)
      ∷ test bad_worker i (WorkerAmiss rs i r)
      ∷ test too_many_steps i (StepBeyond rs i r)
      ∷ test bad_operand i (OperandOutside rs r)
      ∷ test no_size i (SizeMissing rs i r)
      ∷ []

  without_step : is_step r ≡ false → (UnknownOp r → ⊥) → (r.op ≡ op_barrier → ⊥) → Covers step_tests holds i
  without_step unknown named other =
      passes-by named
      (passes-by (λ (d : WorkerAmiss rs i r). false≢true (sym unknown ∙ d.0))
      (passes-by (λ (d : StepBeyond rs i r). false≢true (sym unknown ∙ d.0))
      (passes-by (λ (d : OperandOutside rs r). false≢true (sym unknown ∙ ⊎_elim (λ x. row-known r.op x.0 x.1) (λ x. start-known r x.0) d))
      (passes-by (λ (d : SizeMissing rs i r). other d.0) (covers-none i)))))

-- the first record
first-covers : (behind : List Record) (r : Record) → Covers (tests_of (r ∷ behind) 0 r) (record_rule [] r) 0
unfolding record_rule plan_rule known row_in
first-covers behind r =
    covers (not (eqb r.mark plan_mark)) bad_mark (plan_rule r) (mark-due r) (mark-right r)
    (λ m.
    covers (wrong_plan r) bad_plan holds
    (λ e. inl (refl, λ p. absurd (false≢true (sym (whole p) ∙ e))))
    (λ e. ⊎_elim (λ d. d.1 (plan-record r e)) (λ d. let h = d.0 in omega arith))
    (λ e.
    let op = (plan-record r e).op in
    passes-by (λ (d : BarrierAmiss (r ∷ behind) 0 r). false≢true (sym (ap (λ (o : ℕ). eqb o 1) op) ∙ d.0))
    (passes-by (λ (d : SleepAmiss (r ∷ behind) 0 r). false≢true (sym (ap (λ (o : ℕ). eqb o 2) op) ∙ d.0))
    (without_step (r ∷ behind) 0 r (ap known op) (λ d. d.0 op) (λ q. let z = sym op ∙ q in omega arith)))))
  where
    whole : PlanRecord r → wrong_plan r ≡ false
    whole p =
        simp (eq-eqb _ _ p.op, eq-eqb _ _ p.register, eq-eqb _ _ p.number, le-ltb r.worker 1 p.least, le-ltb workers_limit r.worker p.most)

-- a later record r, behind q ∷ qs
module _ (q : Record) (qs behind : List Record) (r : Record) where
  abbrev taken : List Record
  taken = q ∷ qs

  abbrev all : List Record
  all = (q ∷ qs) ++ (r ∷ behind)

  abbrev index : ℕ
  index = length (q ∷ qs)

  found : (t : Record → Bool) (P : Record → Type 0) → ((p : Record) → t p ≡ true → P p) → any_of t taken ≡ true → Before all index P
  found t P f e =
      let h = any-there t taken blank e in
      (h.0, h.1, subst⁻¹ P (get_or-append taken (r ∷ behind) blank h.0 h.1) (f _ h.2))

  missing : (t : Record → Bool) (P : Record → Type 0) → ((p : Record) → P p → t p ≡ true) → any_of t taken ≡ false → Before all index P → ⊥
  missing t P f e h =
      false≢true
      (sym (any_none t taken blank e h.0 h.1) ∙ f _ (subst P (get_or-append taken (r ∷ behind) blank h.0 h.1) h.2))

  -- a record before the steps, of some kind, which ascends by a number and stands before those of later kinds
  module _ (kind : Record → Bool) (number : Record → ℕ) (later : Record → Bool) (Later : Record → Type 0) (wrong : Bool) (Whole : Type 0) where
    abbrev higher : Record → Bool
    higher p = kind p && leb (number r) (number p)

    abbrev Higher : Record → Type 0
    Higher p = (kind p ≡ true) × (number r ≤ number p)

    abbrev Amiss : Type 0
    Amiss = Before all index Higher ⊎ (Before all index Later ⊎ (Whole → ⊥))

    head-due : ((p : Record) → later p ≡ true → Later p) → (Whole → wrong ≡ false) → misplaced kind number later taken r || wrong ≡ true → Amiss
    head-due there whole e =
        ⊎_elim
        (λ h.
        ⊎_elim (λ m. inl (found higher Higher (λ p t. (and_left (kind p) _ t, leb-true _ _ (and_right (kind p) _ t))) m))
        (λ s. inr (inl (found later Later there s)))
        (or_cases (any_of higher taken) (any_of later taken) h))
        (λ w. inr (inr (λ f. absurd (false≢true (sym (whole f) ∙ w)))))
        (or_cases (misplaced kind number later taken r) wrong e)

    head-right : ((p : Record) → Later p → later p ≡ true) → (wrong ≡ false → Whole) → misplaced kind number later taken r || wrong ≡ false → Amiss → ⊥
    head-right there whole e =
        let t = or_left (misplaced kind number later taken r) wrong e in
        ⊎_elim (missing higher Higher (λ p h. and-true h.0 (le-leb _ _ h.1)) (or_left (any_of higher taken) (any_of later taken) t))
        (⊎_elim (missing later Later there (or_right (any_of higher taken) t)) (λ amiss. amiss (whole (or_right (misplaced kind number later taken r) e))))

  -- a barrier record
  abbrev barrier_test : Bool
  barrier_test = misplaced is_barrier (λ p. p.register) is_behind_barriers taken r || wrong_barrier r

  abbrev Behind : Record → Type 0
  Behind p = (is_sleep p ≡ true) ⊎ (is_step p ≡ true)

  barrier-whole : BarrierRecord r → wrong_barrier r ≡ false
  barrier-whole b =
      simp (eq-eqb _ _ b.worker, lt-leb barrier_count r.register b.barrier, le-ltb r.number 1 b.least, le-ltb size_limit r.number b.most)

  barrier-due : is_barrier r ≡ true → barrier_test ≡ true → BarrierAmiss all index r
  barrier-due b e =
      (b, head-due is_barrier (λ p. p.register) is_behind_barriers Behind (wrong_barrier r) (BarrierRecord r) (λ p t. or_cases (is_sleep p) (is_step p) t) barrier-whole e)

  barrier-right : is_barrier r ≡ true → barrier_test ≡ false → BarrierAmiss all index r → ⊥
  barrier-right b e h =
      head-right is_barrier (λ p. p.register) is_behind_barriers Behind (wrong_barrier r) (BarrierRecord r)
      (λ p. ⊎_elim (λ s. ap (λ (t : Bool). t || is_step p) s) (λ s. or-holds (is_sleep p) s))
      (barrier-record r b)
      e
      h.1

  -- a sleep record
  abbrev sleep_test : Bool
  sleep_test = misplaced is_sleep (λ p. p.worker) is_step taken r || wrong_sleep (workers_in taken) r

  sleep-whole : SleepRecord (workers_in taken) r → wrong_sleep (workers_in taken) r ≡ false
  sleep-whole s =
      simp (ne_eqb r.worker 0 (λ z. let l = s.least in omega arith), lt-leb (workers_in taken) r.worker s.most, eq-eqb _ _ s.register, eq-eqb _ _ s.number)

  sleep-due : is_sleep r ≡ true → sleep_test ≡ true → SleepAmiss all index r
  sleep-due s e = (s, head-due is_sleep (λ p. p.worker) is_step (λ p. is_step p ≡ true) (wrong_sleep (workers_in taken) r) (SleepRecord (workers_in taken) r) (λ p t. t) sleep-whole e)

  sleep-right : is_sleep r ≡ true → sleep_test ≡ false → SleepAmiss all index r → ⊥
  sleep-right s e h =
      head-right is_sleep (λ p. p.worker) is_step (λ p. is_step p ≡ true) (wrong_sleep (workers_in taken) r) (SleepRecord (workers_in taken) r) (λ p t. t)
      (sleep-record (workers_in taken) r s)
      e
      h.1

  -- a step
  abbrev lower : Record → Bool
  lower p = is_step p && ltb r.worker p.worker

  abbrev Lower : Record → Type 0
  Lower p = (is_step p ≡ true) × (r.worker < p.worker)

  worker-due : is_step r ≡ true → wrong_worker taken r ≡ true → WorkerAmiss all index r
  worker-due s e = (
    s,
    ⊎_elim (λ h. inl (leb-true (workers_in taken) r.worker h))
        (λ h. inr (found lower Lower (λ p l. (and_left (is_step p) _ l, ltb-true _ _ (and_right (is_step p) _ l))) h))
        (or_cases (leb (workers_in taken) r.worker) (any_of lower taken) e),
  )

  worker-right : wrong_worker taken r ≡ false → WorkerAmiss all index r → ⊥
  worker-right e h =
      ⊎_elim
      (λ l. let m = leb-false (workers_in taken) r.worker (or_left (leb (workers_in taken) r.worker) (any_of lower taken) e) in omega arith)
      (missing lower Lower (λ p l. and-true l.0 (lt-ltb _ _ l.1)) (or_right (leb (workers_in taken) r.worker) e))
      h.1

  counted : length (steps_in taken r.worker) ≡ length (steps_in (take index all) r.worker)
  counted = ap (λ (rs : List Record). length (steps_in rs r.worker)) (sym (take-append_seam taken (r ∷ behind)))

  ranges-due : is_step r ≡ true → operands_outside (row_of r.op) r.register r.number ≡ true → OperandOutside all r
  unfolding operands_outside
  ranges-due s e =
      let x = known-row r.op s in
      let t = ap (λ (o : Option Row). operands_outside o r.register r.number) (sym x.1) ∙ e in
      inl (
        x.0,
        x.1,
        ⊎_elim (λ h. inl (ltb-true _ _ h))
            (λ h. inr (⊎_elim (λ l. inl (ltb-true _ _ l)) (λ l. inr (ltb-true _ _ l)) (or_cases (ltb r.number x.0.least) _ h)))
            (or_cases (ltb x.0.registers r.register) (outside x.0.least x.0.most r.number) t),
      )

  operand-due : is_step r ≡ true → wrong_operand (workers_in taken) r ≡ true → OperandOutside all r
  operand-due s e =
      ⊎_elim (ranges-due s) (λ h. inr (eqb-true r.op op_start (and_left (eqb r.op op_start) _ h), leb-true _ _ (and_right (eqb r.op op_start) _ h)))
      (or_cases (operands_outside (row_of r.op) r.register r.number) (starts_nobody (workers_in taken) r) e)

  operand-right : is_step r ≡ true → wrong_operand (workers_in taken) r ≡ false → OperandOutside all r → ⊥
  operand-right s e =
      ⊎_elim
      (λ h.
      let t = operands-inside (workers_in taken) r h.0 h.1 e in
      let register = t.register in
      let least = t.least in
      let most = t.most in
      ⊎_elim (λ l. omega arith) (⊎_elim (λ l. omega arith) (λ l. omega arith)) h.2)
      (λ h. let x = known-row r.op s in let l = (operands-inside (workers_in taken) r x.0 x.1 e).target h.0 in let m = h.1 in omega arith)

  abbrev NamesIt : Record → Type 0
  NamesIt p = (is_barrier p ≡ true) × (p.register ≡ r.number)

  size-due : lacks_size taken r ≡ true → SizeMissing all index r
  size-due e = (
    eqb-true r.op op_barrier (and_left (eqb r.op op_barrier) _ e),
    missing (names r.number) NamesIt (λ p h. and-true h.0 (eq-eqb _ _ h.1)) (not-true _ (and_right (eqb r.op op_barrier) _ e)),
  )

  size-right : lacks_size taken r ≡ false → SizeMissing all index r → ⊥
  size-right e h =
      h.1
      (found (names r.number) NamesIt (λ p n. (and_left (is_barrier p) _ n, eqb-true _ _ (and_right (is_barrier p) _ n)))
      (not-false _ (sym (ap (λ (b : Bool). b && not (any_of (names r.number) taken)) (eq-eqb _ _ h.0)) ∙ e)))

  steps-cover : is_barrier r ≡ false → is_sleep r ≡ false → eqb r.op 0 ≡ false → Covers (step_tests all index r) (step_rule taken r) index
  unfolding step_rule
  steps-cover b d z =
      covers (not (known r.op)) bad_op _ (λ e. (eqb-false r.op 0 z, b, d, not-true _ e)) (λ e u. absurd (false≢true (sym u.3 ∙ not-false _ e)))
      (λ e.
      let s : is_step r ≡ true = not-false _ e in
      covers (wrong_worker taken r) bad_worker _ (worker-due s) worker-right
      (λ w.
      covers (leb steps_limit (length (steps_in taken r.worker))) too_many_steps _
      (λ l. (s, omega (arith, leb-true steps_limit (length (steps_in taken r.worker)) l, counted)))
      (λ l d. omega (arith, leb-false steps_limit (length (steps_in taken r.worker)) l, counted, d.1))
      (λ l.
      covers (wrong_operand (workers_in taken) r) bad_operand _ (operand-due s) (operand-right s)
      (λ o.
      covers (lacks_size taken r) no_size holds size-due size-right
      (λ m. covers-none index)))))

  later-covers : Covers (tests_of all index r) (record_rule taken r) index
  unfolding record_rule later_rule barrier_record_rule sleep_record_rule
  later-covers =
      covers (not (eqb r.mark plan_mark)) bad_mark (later_rule taken r) (mark-due r) (mark-right r)
      (λ m.
      covers (eqb r.op 0) bad_plan _
      (λ e. inr (omega arith, eqb-true r.op 0 e))
      (λ e. ⊎_elim (λ d. let h = d.0 in omega arith) (λ d. eqb-false r.op 0 e d.1))
      (λ z. go (is_barrier r) refl (is_sleep r) refl z))
    where
      go : (b : Bool) → is_barrier r ≡ b → (d : Bool) → is_sleep r ≡ d → eqb r.op 0 ≡ false
          → Covers (test bad_barrier index (BarrierAmiss all index r) ∷ test bad_sleep index (SleepAmiss all index r) ∷ step_tests all index r)
          (cond b (barrier_record_rule taken r) (cond d (sleep_record_rule taken r) (step_rule taken r))) index
      go true b d s z =
          let one = eqb-true r.op 1 b in
          covers barrier_test bad_barrier holds (barrier-due b) (barrier-right b)
          (λ e.
          passes-by (λ (h : SleepAmiss all index r). let two = eqb-true r.op 2 h.0 in omega arith)
          (without_step all index r (barrier-no-step r b) (λ u. absurd (false≢true (sym u.1 ∙ b))) (λ o. omega arith)))
      go false b true s z =
          let two = eqb-true r.op 2 s in
          passes-by (λ (h : BarrierAmiss all index r). false≢true (sym b ∙ h.0))
          (covers sleep_test bad_sleep holds (sleep-due s) (sleep-right s)
          (λ e. without_step all index r (sleep-no-step r s) (λ u. absurd (false≢true (sym u.2 ∙ s))) (λ o. omega arith)))
      go false b false s z =
          passes-by (λ (h : BarrierAmiss all index r). false≢true (sym b ∙ h.0))
          (passes-by (λ (h : SleepAmiss all index r). false≢true (sym s ∙ h.0)) (steps-cover b s z))

-- any record
pub record-covers : (before behind : List Record) (r : Record)
    → Covers (record_tests (before ++ (r ∷ behind)) (length before)) (record_rule before r) (length before)
record-covers before behind r =
    subst⁻¹ (λ (p : Record). Covers (tests_of (before ++ (r ∷ behind)) (length before) p) (record_rule before r) (length before))
    (get_or-append_seam before r behind blank)
    (go before)
  where
    go : (qs : List Record) → Covers (tests_of (qs ++ (r ∷ behind)) (length qs) r) (record_rule qs r) (length qs)
    go [] = first-covers behind r
    go (q ∷ qs) = later-covers q qs behind r
