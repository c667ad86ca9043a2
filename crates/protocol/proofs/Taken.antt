-- What it means that a record is taken: the rules of a later record, as facts.
use Prim.Native.Nat.{ℕ, suc, ◌<◌, ◌≤◌}
use mathlib.Core.Bool.{Bool, true, false, cond, not, ◌&&◌, ◌||◌}
use mathlib.Core.Path.{◌≡◌, refl, sym, ap, ◌∙◌}
use mathlib.Core.Logic.{◌⊎◌, inl, inr}
use mathlib.Core.List.{List}
use native.Mathlib.Omega.{arith}
use lib.Dec.{leb, ltb, eqb}
use lib.ListN.{length}
use borrow.Author.Tests.{not-false, ltb-false, leb-false, eqb-true, eqb-false}
use Rattle.protocol.specs.Ops.{op_plan_record, op_barrier_record, op_sleep_record}
use Rattle.protocol.specs.Format.{Record, row_in, known, is_barrier, is_sleep, is_step, workers_in, steps_in, workers_limit, barrier_count, size_limit, steps_limit}
use Rattle.protocol.specs.Refusals.{Refusal, bad_plan, bad_barrier, bad_sleep, Rule, holds, refuse_if, any_of, outside, wrong_plan, wrong_barrier, wrong_sleep, wrong_operand, lacks_size}
use Rattle.protocol.specs.Refusals.{misplaced, is_behind_barriers, barrier_record_rule, sleep_record_rule, step_rule, later_rule}
use Rattle.protocol.specs.WellFormed.{PlanRecord, BarrierRecord, SleepRecord}
use Rattle.protocol.proofs.Bools.{or_left, or_right}
use Rattle.protocol.proofs.Records.{top_in, any-reaches, any-either, picks, low_in, dozing_in, opened_in}

-- a rule that holds: its test fails, and the next rule holds
pub rule-parts : (b : Bool) (f : Refusal) (next : Rule) → refuse_if b f next ≡ holds → (b ≡ false) × (next ≡ holds)
rule-parts true f next e = let z : ◌≡◌ {A = ℕ} 0 1 = cc in absurd (omega arith)
rule-parts false f next e = (refl, e)

pub record StepTaken (before : List Record) (r : Record) : Type 0 where
  pub step : is_step r ≡ true
  pub no_barrier : is_barrier r ≡ false
  pub no_sleep : is_sleep r ≡ false
  pub below : r.worker < workers_in before
  pub level : opened_in before ≤ suc r.worker
  pub few : length (steps_in before r.worker) < steps_limit
  pub inside : wrong_operand (workers_in before) r ≡ false
  pub sized : lacks_size before r ≡ false

pub record BarrierTaken (before : List Record) (r : Record) : Type 0 where
  pub barrier : is_barrier r ≡ true
  pub no_step : is_step r ≡ false
  pub ascends : low_in before ≤ r.register
  pub unopened : opened_in before ≡ 0
  pub no_sleeper : any_of is_sleep before ≡ false
  pub formed : BarrierRecord r

pub record SleepTaken (before : List Record) (r : Record) : Type 0 where
  pub sleep : is_sleep r ≡ true
  pub no_step : is_step r ≡ false
  pub no_barrier : is_barrier r ≡ false
  pub ascends : dozing_in before ≤ r.worker
  pub unopened : opened_in before ≡ 0
  pub formed : SleepRecord (workers_in before) r

pub barrier-no-step : (r : Record) → is_barrier r ≡ true → is_step r ≡ false
unfolding known row_in
barrier-no-step r e = ap known (eqb-true r.op op_barrier_record e)

pub sleep-no-step : (r : Record) → is_sleep r ≡ true → is_step r ≡ false
unfolding known row_in
sleep-no-step r e = ap known (eqb-true r.op op_sleep_record e)

-- of three tests none holds
pub none_of : (a b c : Bool) → a || b || c ≡ false → (a ≡ false) × (b ≡ false) × (c ≡ false)
none_of a b c e = let t = or_left (a || b) c e in (or_left a b t, or_right a t, or_right (a || b) e)

-- the fields of a plan record and of a barrier record, by the tests of them
pub plan-record : (r : Record) → wrong_plan r ≡ false → PlanRecord r
plan-record r e =
    let op = not (eqb r.op op_plan_record) in
    let workers = outside 1 workers_limit r.worker in
    let t = none_of (op || workers) (not (eqb r.register 0)) (not (eqb r.number 0)) e in
    record {
      op = eqb-true r.op op_plan_record (not-false _ (or_left op workers t.0));
      least = ltb-false _ _ (or_left (ltb r.worker 1) _ (or_right op t.0));
      most = ltb-false _ _ (or_right (ltb r.worker 1) (or_right op t.0));
      register = eqb-true r.register 0 (not-false _ t.1);
      number = eqb-true r.number 0 (not-false _ t.2);
    }

pub barrier-record : (r : Record) → is_barrier r ≡ true → wrong_barrier r ≡ false → BarrierRecord r
barrier-record r b e =
    let t = none_of (not (eqb r.worker 0)) (leb barrier_count r.register) (outside 1 size_limit r.number) e in
    record {
      op = eqb-true r.op op_barrier_record b;
      worker = eqb-true r.worker 0 (not-false _ t.0);
      barrier = leb-false _ _ t.1;
      least = ltb-false _ _ (or_left (ltb r.number 1) _ t.2);
      most = ltb-false _ _ (or_right (ltb r.number 1) t.2);
    }

pub sleep-record : (n : ℕ) (r : Record) → is_sleep r ≡ true → wrong_sleep n r ≡ false → SleepRecord n r
sleep-record n r b e =
    let t = none_of (eqb r.worker 0 || leb n r.worker) (not (eqb r.register 0)) (not (eqb r.number 0)) e in
    let some = eqb-false r.worker 0 (or_left (eqb r.worker 0) _ t.0) in
    record {
      op = eqb-true r.op op_sleep_record b;
      least = omega arith;
      most = leb-false _ _ (or_right (eqb r.worker 0) t.0);
      register = eqb-true r.register 0 (not-false _ t.1);
      number = eqb-true r.number 0 (not-false _ t.2);
    }

-- a record that is in its place: it ascends, and none of a later kind stands before it
in_place : (kind : Record → Bool) (number : Record → ℕ) (later : Record → Bool) (before : List Record) (r : Record)
    → misplaced kind number later before r ≡ false → (top_in kind number before ≤ number r) × (any_of later before ≡ false)
in_place kind number later before r e =
    let higher = any_of (λ q. kind q && leb (number r) (number q)) before in
    (ltb-false _ _ (sym (any-reaches kind number (number r) before) ∙ or_left higher (any_of later before) e), or_right higher e)

none-opened : (before : List Record) → any_of is_step before ≡ false → opened_in before ≡ 0
none-opened before e = let h : opened_in before ≤ 0 = ltb-false _ _ (sym (picks is_step (λ q. q.worker) before) ∙ e) in omega arith

barrier-taken : (before : List Record) (r : Record) → is_barrier r ≡ true → barrier_record_rule before r ≡ holds → BarrierTaken before r
unfolding barrier_record_rule
barrier-taken before r b e =
    let amiss = misplaced is_barrier (λ q. q.register) is_behind_barriers before r in
    let fine = (rule-parts (amiss || wrong_barrier r) bad_barrier holds e).0 in
    let t = in_place is_barrier (λ q. q.register) is_behind_barriers before r (or_left amiss (wrong_barrier r) fine) in
    let none = any-either is_sleep is_step before t.1 in
    record {
      barrier = b;
      no_step = barrier-no-step r b;
      ascends = t.0;
      unopened = none-opened before none.1;
      no_sleeper = none.0;
      formed = barrier-record r b (or_right amiss fine);
    }

sleep-taken : (before : List Record) (r : Record) → is_barrier r ≡ false → is_sleep r ≡ true → sleep_record_rule before r ≡ holds → SleepTaken before r
unfolding sleep_record_rule
sleep-taken before r b s e =
    let amiss = misplaced is_sleep (λ q. q.worker) is_step before r in
    let fine = (rule-parts (amiss || wrong_sleep (workers_in before) r) bad_sleep holds e).0 in
    let t = in_place is_sleep (λ q. q.worker) is_step before r (or_left amiss (wrong_sleep (workers_in before) r) fine) in
    record {
      sleep = s;
      no_step = sleep-no-step r s;
      no_barrier = b;
      ascends = t.0;
      unopened = none-opened before t.1;
      formed = sleep-record (workers_in before) r s (or_right amiss fine);
    }

step-taken : (before : List Record) (r : Record) → is_barrier r ≡ false → is_sleep r ≡ false → step_rule before r ≡ holds → StepTaken before r
unfolding step_rule
step-taken before r b s e =
    let p₁ = rule-parts _ _ _ e in
    let p₂ = rule-parts _ _ _ p₁.1 in
    let p₃ = rule-parts _ _ _ p₂.1 in
    let p₄ = rule-parts _ _ _ p₃.1 in
    let p₅ = rule-parts _ _ _ p₄.1 in
    record {
      step = not-false (is_step r) p₁.0;
      no_barrier = b;
      no_sleep = s;
      below = leb-false _ _ (or_left _ _ p₂.0);
      level = ltb-false _ _ (sym (any-reaches is_step (λ q. q.worker) (suc r.worker) before) ∙ or_right (leb (workers_in before) r.worker) p₂.0);
      few = leb-false _ _ p₃.0;
      inside = p₄.0;
      sized = p₅.0;
    }

-- a taken record is a barrier record, a sleep record or a step
abbrev pub Taken : List Record → Record → Type 0
Taken before r = BarrierTaken before r ⊎ (SleepTaken before r ⊎ StepTaken before r)

pub later-taken : (before : List Record) (r : Record) → later_rule before r ≡ holds → Taken before r
unfolding later_rule
later-taken before r e = go (is_barrier r) refl (is_sleep r) refl (rule-parts (eqb r.op op_plan_record) bad_plan _ e).1
  where
    go : (b : Bool) → is_barrier r ≡ b → (d : Bool) → is_sleep r ≡ d
        → cond b (barrier_record_rule before r) (cond d (sleep_record_rule before r) (step_rule before r)) ≡ holds → Taken before r
    go true p d s q = inl (barrier-taken before r p q)
    go false p true s q = inr (inl (sleep-taken before r p s q))
    go false p false s q = inr (inr (step-taken before r p s q))
