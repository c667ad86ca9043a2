-- The check's laws, by record index: one record of the reading, and the barrier records.
use Prim.Native.Nat.{ℕ, zero, suc, ◌+◌, ◌-◌, ◌%◌, ◌<◌, ◌≤◌}
use mathlib.Core.Bool.{Bool, true, false, cond, not, ◌&&◌, ◌||◌}
use mathlib.Core.Path.{◌≡◌, refl, sym, ap, ◌∙◌, subst⁻¹}
use mathlib.Core.List.{List, [], ◌∷◌, ◌++◌}
use mathlib.Core.Option.{some}
use native.Mathlib.Omega.{arith}
use native.Mathlib.Numerals.{add-one}
use native.Mathlib.Decide.{ℕ_discrete}
use lib.Dec.{ltb, eqb}
use lib.ListN.{length, get_or, set, replicate, length-set, get_or-replicate}
use lib.Seq.{get_or-set_same, get_or-set_other}
use borrow.Author.Tests.{ltb-false, eqb-true, eq-eqb, ne_eqb}
use Rattle.protocol.specs.Ops.{op_plan_record, op_barrier_record, op_sleep_record}
use Rattle.protocol.specs.Format.{Record, plan_mark, records_from, workers_in, is_barrier, is_sleep, is_step, known, row_in, size_in, barrier_count}
use Rattle.protocol.specs.Refusals as protocol
use Rattle.protocol.specs.Refusals.{any_of, ruled, refuse_if, holds, check_records, record_rule, plan_rule, later_rule, wrong_plan, wrong_barrier, barrier_record_rule, sleep_record_rule, step_rule}
use Rattle.protocol.specs.WellFormed.{PlanRecord}
use Rattle.protocol.proofs.Bools.{or_left, or_right, or-false, or-fails}
use Rattle.protocol.proofs.Lists.{length-records_from}
use Rattle.protocol.proofs.Records.{one as one_of_lem, none-either, any-reaches, any_of-one, top_in, low_in, top_in-kept, top_in-raised, names-new, size_in-other, size_in-new}
use Rattle.protocol.proofs.Taken.{rule-parts, plan-record, barrier-record, barrier-no-step}
use Rattle.protocol.proofs.Prefix.{Read as PrefixRead, read_first, read_more}
use Rattle.plan.specs.Answer.{body_of, record_of, decoded_of}
use Rattle.plan.specs.declared.decode.Record as decode
use Rattle.std.specs.Prelude.{Some, None}
use Rattle.plan.specs.Reading.{file_record, before, verdict_from, RulesHold, refuses_barrier, HeadSoFar}

-- a record as the code has it
abbrev pub Body : Type 0
Body = decode.Record

records-more : (file : List ℕ) (k i : ℕ) → records_from file (suc k) i ≡ records_from file k i ++ one_of_lem (file_record file (i + k))
unfolding records_from
records-more file zero i = ap (λ (j : ℕ). one_of_lem (file_record file j)) (omega arith)
records-more file (suc k) i =
    ap (λ (l : List Record). file_record file i ∷ l)
    (records-more file k (suc i) ∙ ap (λ (j : ℕ). records_from file k (suc i) ++ one_of_lem (file_record file j)) (omega arith))

pub before_more : (file : List ℕ) (i : ℕ) → before file (i + 1) ≡ before file i ++ one_of_lem (file_record file i)
before_more file i =
    ap (λ (j : ℕ). records_from file j 0) (add-one i)
    ∙ (records-more file i 0 ∙ ap (λ (j : ℕ). records_from file i 0 ++ one_of_lem (file_record file j)) (omega arith))

pub length_before : (file : List ℕ) (i : ℕ) → length (before file i) ≡ i
length_before file i = length-records_from file i 0

-- the first record is always the same
pub workers-same : (file : List ℕ) (i : ℕ) → 1 ≤ i → workers_in (before file i) ≡ (file_record file 0).worker
unfolding records_from
workers-same file zero h = absurd (omega arith)
workers-same file (suc i) h = refl

-- one record of the reading, by its rule
pub verdict-step : (file : List ℕ) (count i : ℕ) {rule : protocol.Rule} → i < count → record_rule (before file i) (file_record file i) ≡ rule
    → verdict_from file count i ≡ ruled rule i (verdict_from file count (i + 1))
unfolding check_records records_from
verdict-step file count i {rule} h e =
    ap (λ (k : ℕ). check_records (before file i) (records_from file k i)) left
    ∙ (ap (λ (n : ℕ). ruled (record_rule (before file i) (file_record file i)) n (check_records (before file i ++ one_of_lem (file_record file i)) rest)) (length_before file i)
    ∙ (ap (λ (rule : protocol.Rule). ruled rule i (check_records (before file i ++ one_of_lem (file_record file i)) rest)) e
    ∙ ap (λ (v : protocol.Verdict). ruled rule i v)
    (ap (λ (rs : List Record). check_records rs rest) (sym (before_more file i))
    ∙ ap (λ (j : ℕ). check_records (before file (i + 1)) (records_from file (count - (i + 1)) j)) (sym (add-one i)))))
  where
    left : count - i ≡ suc (count - (i + 1))
    left = omega arith

    rest : List Record
    rest = records_from file (count - (i + 1)) (suc i)

-- ---- what the decoder told of a record

pub told : (r : Record) {b : Body} → decoded_of r ≡ Some b → r ≡ record_of b
told r {b} e = go (eqb r.mark plan_mark) refl e
  where
    go : (t : Bool) → eqb r.mark plan_mark ≡ t → cond t (Some (body_of r)) None ≡ Some b → r ≡ record_of b
    go true q h =
        let same : body_of r ≡ b = cc in
        ap (λ (m : ℕ). record { mark = m; worker = r.worker; op = r.op; register = r.register; number = r.number }) (eqb-true _ _ q)
        ∙ ap record_of same
    go false q h = let z : ◌≡◌ {A = ℕ} 0 1 = cc in absurd (omega arith)

told-unmarked : (r : Record) → decoded_of r ≡ None → eqb r.mark plan_mark ≡ false
told-unmarked r e = go (eqb r.mark plan_mark) e
  where
    go : (t : Bool) → cond t (Some (body_of r)) None ≡ None → t ≡ false
    go true q = let z : ◌≡◌ {A = ℕ} 0 1 = cc in absurd (omega arith)
    go false q = refl

pub no-barrier-record : (r : Record) {b : Body} → decoded_of r ≡ Some b → (b.op ≡ op_barrier_record → ⊥) → is_barrier r ≡ false
no-barrier-record r e n = ap is_barrier (told r e) ∙ ne_eqb _ _ n

pub not-refused : {A : Type 0} (f : protocol.Refusal) (i : ℕ) → protocol.refused f i ≡ protocol.accepted → A
not-refused f i e = let z : ◌≡◌ {A = ℕ} 0 1 = cc in absurd (omega arith)

-- ---- the rule of a record, by its mark

pub unmarked-rule : (rs : List Record) (r : Record) → decoded_of r ≡ None → record_rule rs r ≡ some protocol.bad_mark
unfolding record_rule
unmarked-rule [] r e = ap (λ (t : Bool). refuse_if (not t) protocol.bad_mark (plan_rule r)) (told-unmarked r e)
unmarked-rule (q ∷ qs) r e = ap (λ (t : Bool). refuse_if (not t) protocol.bad_mark (later_rule (q ∷ qs) r)) (told-unmarked r e)

pub marked-rule : (file : List ℕ) (i : ℕ) {b : Body} → 1 ≤ i → decoded_of (file_record file i) ≡ Some b
    → record_rule (before file i) (file_record file i) ≡ later_rule (before file i) (record_of b)
unfolding record_rule records_from
marked-rule file zero h e = absurd (omega arith)
marked-rule file (suc i) h e = ap (λ (r : Record). record_rule (before file (suc i)) r) (told (file_record file (suc i)) e)

-- ---- records whose rules hold

pub rules-first : (file : List ℕ) → record_rule [] (file_record file 0) ≡ holds → RulesHold file 1
unfolding records_from
rules-first file e zero h = e
rules-first file e (suc k) h = absurd (omega arith)

pub rules-more : (file : List ℕ) (i : ℕ) → RulesHold file i → record_rule (before file i) (file_record file i) ≡ holds → RulesHold file (i + 1)
rules-more file i rules e k h = elim (ℕ_discrete k i) [
  | yes q ↦ subst⁻¹ (λ (j : ℕ). record_rule (before file j) (file_record file j) ≡ holds) q e
  | no q ↦ rules k (omega arith)
]

pub plan-first : (file : List ℕ) (i : ℕ) → 1 ≤ i → RulesHold file i → PlanRecord (file_record file 0)
unfolding record_rule plan_rule records_from
plan-first file i h rules =
    let r = file_record file 0 in
    plan-record r (rule-parts (wrong_plan r) protocol.bad_plan holds (rule-parts (not (eqb r.mark plan_mark)) protocol.bad_mark (plan_rule r) (rules 0 h)).1).0

pub later-holds : (file : List ℕ) (i k : ℕ) → 1 ≤ k → k < i → RulesHold file i → later_rule (before file k) (file_record file k) ≡ holds
unfolding record_rule records_from
later-holds file i zero l h rules = absurd (omega arith)
later-holds file i (suc k) l h rules =
    let r = file_record file (suc k) in
    (rule-parts (not (eqb r.mark plan_mark)) protocol.bad_mark (later_rule (before file (suc k)) r) (rules (suc k) h)).1

-- the plan record alone
module _ (file : List ℕ) (p : PlanRecord (file_record file 0)) where
  first-no-barrier : is_barrier (file_record file 0) ≡ false
  first-no-barrier = ap (λ (o : ℕ). eqb o op_barrier_record) p.op

  first-no-sleep : is_sleep (file_record file 0) ≡ false
  first-no-sleep = ap (λ (o : ℕ). eqb o op_sleep_record) p.op

  first-no-step : is_step (file_record file 0) ≡ false
  unfolding known row_in
  first-no-step = ap known p.op

pub read : (file : List ℕ) (i : ℕ) → 1 ≤ i → RulesHold file i → PrefixRead (before file i)
unfolding records_from
read file zero h rules = absurd (omega arith)
read file (suc zero) h rules =
    let p = plan-first file 1 h rules in
    read_first (file_record file 0) (first-no-barrier file p) (first-no-step file p)
read file (suc (suc i)) h rules =
    subst⁻¹ PrefixRead (ap (λ (j : ℕ). before file j) (sym (add-one (suc i))) ∙ before_more file (suc i))
    (read_more (file_record file 0) (records_from file i 1) (file_record file (suc i))
    (read file (suc i) (omega arith) (λ k l. rules k (omega arith)))
    (later-holds file (suc (suc i)) (suc i) (omega arith) (omega arith) rules))

-- ---- the barrier records

-- the sizes so far, and the lowest barrier that may still come
pub record BarriersAt (file : List ℕ) (i low : ℕ) (sizes : List ℕ) : Type 0 where
  pub so_far : HeadSoFar file i sizes
  pub no_sleeper : any_of is_sleep (before file i) ≡ false
  pub lowest : low_in (before file i) ≡ low
  pub bounded : low ≤ barrier_count

pub barriers-first : (file : List ℕ) → RulesHold file 1 → BarriersAt file 1 0 (replicate barrier_count 0)
unfolding records_from top_in any_of size_in
barriers-first file rules =
    let p = plan-first file 1 (omega arith) rules in
    let r = file_record file 0 in
    record {
      so_far =
          record {
            rules = rules;
            no_step = or-false (is_step r) ∙ first-no-step file p;
            size = refl;
            right = λ b h.
                get_or-replicate barrier_count b 0 0 h
                ∙ sym (ap (λ (t : Bool). cond (t && eqb r.register b) r.number 0) (first-no-barrier file p));
          };
      no_sleeper = or-false (is_sleep r) ∙ first-no-sleep file p;
      lowest = top_in-kept is_barrier (λ q. q.register) [] r (first-no-barrier file p);
      bounded = omega arith;
    }

-- one barrier record more
module _ {file : List ℕ} {i low : ℕ} {sizes : List ℕ} {b : Body} (least : 1 ≤ i) (at : BarriersAt file i low sizes)
    (decoded : decoded_of (file_record file i) ≡ Some b) (op : b.op ≡ op_barrier_record) where
  -- the code's test is the rule
  pub barrier-rule : record_rule (before file i) (file_record file i) ≡ refuse_if (refuses_barrier low b) protocol.bad_barrier holds
  unfolding later_rule barrier_record_rule
  barrier-rule =
      marked-rule file i least decoded
      ∙ (ap (λ (o : ℕ). refuse_if (eqb o op_plan_record) protocol.bad_plan (cond (eqb o op_barrier_record) (barrier_record_rule rs r) (cond (is_sleep r) (sleep_record_rule rs r) (step_rule rs r)))) op
      ∙ ap (λ (t : Bool). refuse_if (t || wrong_barrier r) protocol.bad_barrier holds)
      (or-fails _ (none-either is_sleep is_step rs at.no_sleeper at.so_far.no_step) ∙ (any-reaches is_barrier (λ q. q.register) b.register rs ∙ ap (λ (k : ℕ). ltb b.register k) at.lowest)))
    where
      rs : List Record
      rs = before file i

      r : Record
      r = record_of b

  module _ (fine : refuses_barrier low b ≡ false) where
    pub named : b.register < barrier_count
    named = (barrier-record (record_of b) (eq-eqb _ _ op) (or_right (ltb b.register low) fine)).barrier

    pub barrier-more : BarriersAt file (i + 1) (b.register + 1) (set sizes b.register (b.number % 256))
    barrier-more =
        let r = record_of b in
        let s = at.so_far in
        let f = barrier-record r barrier (or_right (ltb b.register low) fine) in
        let ascends = ltb-false b.register low (or_left (ltb b.register low) _ fine) in
        let lowest = at.lowest in
        let named = f.barrier in
        let number : b.number % 256 ≡ b.number = let m = f.most in omega arith in
        record {
          so_far =
              record {
                rules = rules-more file i s.rules (barrier-rule ∙ ap (λ (t : Bool). refuse_if t protocol.bad_barrier holds) fine);
                no_step =
                    ap (λ (l : List Record). any_of is_step l) more
                    ∙ (any_of-one is_step (before file i) r ∙ (ap (λ (t : Bool). t || is_step r) s.no_step ∙ barrier-no-step r barrier));
                size = length-set sizes b.register (b.number % 256) ∙ s.size;
                right = λ n h. elim (ℕ_discrete n b.register) [
                  | yes q ↦
                      ap (λ (k : ℕ). get_or (set sizes b.register (b.number % 256)) k 0) q
                      ∙ (get_or-set_same sizes b.register (b.number % 256) 0 (let l = s.size in omega arith)
                      ∙ (number
                      ∙ sym (ap (λ (l : List Record). size_in l n) more ∙ size_in-new (before file i) r n (names-new (before file i) n (omega arith)) (names n (eq-eqb _ _ (sym q))))))
                  | no q ↦
                      get_or-set_other sizes b.register n (b.number % 256) 0 q
                      ∙ (s.right n h
                      ∙ sym (ap (λ (l : List Record). size_in l n) more ∙ size_in-other (before file i) r n (names n (ne_eqb _ _ (λ p. q (sym p))))))
                ];
              };
          no_sleeper =
              ap (λ (l : List Record). any_of is_sleep l) more
              ∙ (any_of-one is_sleep (before file i) r ∙ (ap (λ (t : Bool). t || is_sleep r) at.no_sleeper ∙ ap (λ (o : ℕ). eqb o op_sleep_record) op));
          lowest = ap low_in more ∙ (top_in-raised is_barrier (λ q. q.register) (before file i) r barrier (omega arith) ∙ omega arith);
          bounded = omega arith;
        }
      where
        barrier : is_barrier (record_of b) ≡ true
        barrier = eq-eqb _ _ op

        more : before file (i + 1) ≡ before file i ++ one_of_lem (record_of b)
        more = before_more file i ∙ ap (λ (r : Record). before file i ++ one_of_lem r) (told (file_record file i) decoded)

        names : (n : ℕ) {t : Bool} → eqb b.register n ≡ t → is_barrier (record_of b) && eqb b.register n ≡ t
        names n e = ap (λ (t : Bool). t && eqb b.register n) barrier ∙ e
