-- The step records: what the code keeps of the records before one decides its rule, and stays true of one record more.
use Prim.Native.Nat.{ℕ, zero, suc, ◌+◌, ◌-◌, ◌<◌, ◌≤◌}
use mathlib.Core.Bool.{Bool, true, false, cond, not, ◌&&◌, ◌||◌, true≢false}
use mathlib.Core.Path.{◌≡◌, refl, sym, ap, ◌∙◌, subst, subst⁻¹}
use mathlib.Core.Logic.{⊎_elim}
use mathlib.Core.List.{List, ◌++◌}
use mathlib.Core.Option.{some}
use native.Mathlib.Omega.{arith}
use native.Mathlib.Numerals.{add-one}
use native.Mathlib.Decide.{ℕ_discrete, dec_lt}
use lib.Dec.{leb, ltb, eqb}
use lib.ListN.{length, get_or}
use borrow.Author.Tests.{lt-ltb, le-ltb, lt-leb, ltb-false, leb-false, eqb-true}
use Rattle.protocol.specs.Ops.{op_plan_record, op_barrier_record, op_sleep_record, op_barrier}
use Rattle.protocol.specs.Format.{Record, records_from, row_of, known, is_barrier, is_sleep, is_step, workers_in, size_in, sleepers_in, steps_in, first_in, workers_limit, barrier_count, steps_limit}
use Rattle.protocol.specs.Refusals as protocol
use Rattle.protocol.specs.Refusals.{any_of, refuse_if, holds, operands_outside, wrong_operand, lacks_size, wrong_barrier, wrong_sleep, is_behind_barriers}
use Rattle.protocol.specs.Refusals.{step_rule, barrier_record_rule, sleep_record_rule, later_rule, record_rule}
use Rattle.protocol.proofs.Bools.{split, or_left, or_right, or-holds}
use Rattle.protocol.proofs.Records.{one, opened_in, names, any-other, picks, any-reaches, top_in-raised, size_in-other, sleepers-other, first-unopened, first-one-opened, first-inside}
use Rattle.protocol.proofs.Taken.{StepTaken, later-taken, rule-parts}
use Rattle.protocol.proofs.Prefix.{first_step}
use Rattle.format.specs.Table.{limits_for}
use Rattle.plan.specs.Answer.{refusal_of, refused_by, refused_as, record_of, decoded_of}
use Rattle.plan.specs.declared.answer.Refusal.{Refusal}
use Rattle.plan.specs.declared.answer.Refused.{Refused}
use Rattle.plan.specs.Reading.{file_record, before, verdict_from, RulesHold}
use Rattle.plan.specs.Stepping.{refuses_worker, read_steps, no_step, kept_step_rule, kept_rule, WorkersOpened, PlainStep, StepsSoFar, RecordsRead, StepsRead}
use Rattle.std.specs.Prelude.{Some, None, Err, replicate}
use Rattle.std.proofs.Common.{rules}
use Rattle.std.proofs.lemmas.List.{places}
use borrow.Rule.Slice.PartMut.{put_mid, mid_of}
use Rattle.plan.proofs.Limited.{unknown, not-plan-record, not-barrier-record, not-sleep-record, barrier-number}
use Rattle.plan.proofs.Readings.{Body, before_more, length_before, told, verdict-step, marked-rule, rules-more, read, workers-same, not-refused}

-- what the reading of steps has kept of the records before record i
pub record StepsKept (file : List ℕ) (i n : ℕ) (sizes sleepers : List ℕ) (opened : ℕ) (firsts : List ℕ) : Type 0 where
  pub least : 1 ≤ i
  pub few : n ≤ workers_limit
  pub rules : RulesHold file i
  pub workers : workers_in (before file i) ≡ n
  pub opens : opened_in (before file i) ≡ opened
  pub size : length firsts ≡ workers_limit + 1
  pub right : (w : ℕ) → w < opened → get_or firsts w 0 ≡ first_in (before file i) w
  pub sizes_right : (b : ℕ) → b < barrier_count → get_or sizes b 0 ≡ size_in (before file i) b
  pub slept : sleepers_in (before file i) ≡ sleepers

-- a fill of the places from `opened` up to `ends`
pub filled : (old part : List ℕ) (opened ends i : ℕ) → opened ≤ ends → ends ≤ length old → part ≡ replicate (length (mid_of opened (ends - opened) old)) i
    → WorkersOpened old opened ends i (put_mid opened (ends - opened) old part)
filled old part opened ends i l m e = rw e (record {
  size = search (rules, places);
  inside = λ k a b c. search (rules, places);
  below = λ k a. search (rules, places);
})

-- a record that is refused ends the reading
pub refused-here : {file : List ℕ} {count : ℕ} {sizes : List ℕ} {start : ℕ} {firsts : List ℕ} {f : Refusal} {i : ℕ} {e : Refused} → length firsts ≡ workers_limit + 1
    → e ≡ refused_by f i → protocol.refused (refusal_of f) i ≡ verdict_from file count start → StepsRead file count sizes start (Err e) firsts
refused-here size same why = record { verdict = ap refused_as same ∙ why; size = size; read = λ q. not-refused _ _ q }

-- a worker that is taken is below n, and at most one behind those opened
pub good-worker : (n opened w : ℕ) → refuses_worker n opened w ≡ false → (w < n) × (opened ≤ w + 1)
good-worker n opened w e = (leb-false n w (or_left (leb n w) _ e), ltb-false (w + 1) opened (or_right (leb n w) e))

-- two rules with the same test, and the same to follow where it fails
same_if : (a b : Bool) (f : protocol.Refusal) (x y : protocol.Rule) → a ≡ b → (b ≡ false → x ≡ y) → refuse_if a f x ≡ refuse_if b f y
same_if a true f x y e g = ap (λ (t : Bool). refuse_if t f x) e
same_if a false f x y e g = ap (λ (t : Bool). refuse_if t f x) e ∙ g refl

module _ {file : List ℕ} {i n : ℕ} {sizes sleepers : List ℕ} {opened : ℕ} {firsts : List ℕ} (k : StepsKept file i n sizes sleepers opened firsts) where
  abbrev rs : List Record
  rs = before file i

  pub begun-before : (w : ℕ) → w < opened → get_or firsts w 0 ≤ i
  begun-before w h = omega (arith, k.right w h, first-inside rs w, length_before file i)

  -- how many steps of a worker that does not fall have been read
  read-steps : (w : ℕ) → opened ≤ suc w → length (steps_in rs w) ≡ read_steps firsts opened w i
  read-steps w h =
      let o = k.opens in
      let l = length_before file i in
      let t = (read file i k.least k.rules).together w in
      let last = first-unopened rs (suc w) (omega arith) in
      elim (dec_lt w opened) [
        | yes b ↦ let e = k.right w b in rw (lt-ltb w opened b) (omega arith)
        | no b ↦ let first = first-unopened rs w (omega arith) in rw (le-ltb w opened (omega arith)) (omega arith)
      ]

  -- the worker opened last has at most as many steps as it may
  pub room : (w : ℕ) → opened ≡ w + 1 → i ≤ get_or firsts w 0 + steps_limit
  room w e =
      let o = k.opens in
      let l = length_before file i in
      let r = read file i k.least k.rules in
      let t = r.together w in
      let few = r.few w in
      let first = k.right w (omega arith) in
      let last = first-unopened rs (suc w) (omega arith) in
      omega arith

  unsized : (b : Body) → wrong_operand n (record_of b) ≡ false
      → lacks_size rs (record_of b) ≡ eqb b.op op_barrier && eqb (get_or sizes b.number 0) 0
  unsized b e = split (eqb b.op op_barrier)
      (λ q.
      ap (λ (t : Bool). eqb b.op op_barrier && t)
      (ap not ((read file i k.least k.rules).sized b.number).found
      ∙ (not-not (eqb (size_in rs b.number) 0)
      ∙ ap (λ (j : ℕ). eqb j 0)
      (sym (k.sizes_right b.number
      (barrier-number b.op b.register b.number (eqb-true _ _ q) (or_left (operands_outside (row_of b.op) b.register b.number) _ e)))))))
      (λ q. ap (λ (t : Bool). t && not (any_of (names b.number) rs)) q ∙ sym (ap (λ (t : Bool). t && eqb (get_or sizes b.number 0) 0) q))
    where
      not-not : (b : Bool) → not (not b) ≡ b
      not-not true = refl
      not-not false = refl

  falls : (w : ℕ) → leb (workers_in rs) w || any_of (λ q. is_step q && ltb w q.worker) rs ≡ refuses_worker n opened w
  falls w =
      ap (λ (m : ℕ). leb m w || any_of (λ q. is_step q && ltb w q.worker) rs) k.workers
      ∙ ap (λ (b : Bool). leb n w || b)
      (any-reaches is_step (λ q. q.worker) (suc w) rs ∙ (ap (λ (m : ℕ). ltb (suc w) m) k.opens ∙ ap (λ (m : ℕ). ltb m opened) (sym (add-one w))))

  -- the code's rule of a step is the protocol's
  step-ruled : (b : Body) → step_rule rs (record_of b) ≡ kept_step_rule n opened sizes firsts i b
  unfolding step_rule
  step-ruled b =
      same_if (not (known b.op)) (not (known b.op)) protocol.bad_op _ _ refl (λ _.
      same_if _ (refuses_worker n opened b.worker) protocol.bad_worker _ _ (falls b.worker) (λ e.
      same_if _ (leb steps_limit (read_steps firsts opened b.worker i)) protocol.too_many_steps _ _
      (ap (λ (j : ℕ). leb steps_limit j) (read-steps b.worker (let h = (good-worker n opened b.worker e).1 in omega arith))) (λ _.
      same_if _ (wrong_operand n (record_of b)) protocol.bad_operand _ _ (ap (λ (m : ℕ). wrong_operand m (record_of b)) k.workers) (λ e.
      same_if _ (eqb b.op op_barrier && eqb (get_or sizes b.number 0) 0) protocol.no_size holds holds (unsized b e) (λ _. refl)))))

  -- where neither a barrier record nor a sleep record can stand, the code's rule of a later record is the protocol's
  later-ruled : (b : Body) → (opened ≡ 0 → is_barrier (record_of b) ≡ true → any_of is_sleep rs ≡ true) → (opened ≡ 0 → is_sleep (record_of b) ≡ false)
      → later_rule rs (record_of b) ≡ kept_rule n opened sizes firsts i b
  unfolding later_rule barrier_record_rule sleep_record_rule
  later-ruled b no_barrier no_sleep =
      ap (λ (x : protocol.Rule). refuse_if (eqb b.op op_plan_record) protocol.bad_plan x) (go (is_barrier r) refl (is_sleep r) refl)
    where
      r : Record
      r = record_of b

      some-step : (opened ≡ 0 → ⊥) → any_of is_step rs ≡ true
      some-step f = picks is_step (λ q. q.worker) rs ∙ lt-ltb 0 (opened_in rs) (opened_some opened f k.opens)
        where
          opened_some : (m : ℕ) → (m ≡ 0 → ⊥) → opened_in rs ≡ m → 0 < opened_in rs
          opened_some zero f o = absurd (f refl)
          opened_some (suc m) f o = omega arith

      some-behind : is_barrier r ≡ true → any_of is_behind_barriers rs ≡ true
      some-behind e = elim (ℕ_discrete opened 0) [
        | yes z ↦ any-other is_sleep is_behind_barriers rs (λ q s. ap (λ (t : Bool). t || is_step q) s) (no_barrier z e)
        | no z ↦ any-other is_step is_behind_barriers rs (λ q s. or-holds (is_sleep q) s) (some-step z)
      ]

      -- a record that stands behind one of a later kind is refused
      behind : (f : protocol.Refusal) (a c d : Bool) → c ≡ true → refuse_if ((a || c) || d) f holds ≡ some f
      behind f a c d e = ap (λ (t : Bool). refuse_if (t || d) f holds) (or-holds a e)

      go : (t : Bool) → is_barrier r ≡ t → (u : Bool) → is_sleep r ≡ u
          → cond t (barrier_record_rule rs r) (cond u (sleep_record_rule rs r) (step_rule rs r))
          ≡ refuse_if t protocol.bad_barrier (refuse_if u protocol.bad_sleep (kept_step_rule n opened sizes firsts i b))
      go true e u s = behind protocol.bad_barrier (any_of (λ q. is_barrier q && leb r.register q.register) rs) (any_of is_behind_barriers rs) (wrong_barrier r) (some-behind e)
      go false e true s =
          behind protocol.bad_sleep (any_of (λ q. is_sleep q && leb r.worker q.worker) rs) (any_of is_step rs) (wrong_sleep (workers_in rs) r) (some-step (λ z. true≢false (sym s ∙ no_sleep z)))
      go false e false s = step-ruled b

-- one step record of the reading, by its index
pub record OneStep (file : List ℕ) (i n : ℕ) (sizes sleepers : List ℕ) (opened : ℕ) (firsts : List ℕ) (b : Body) : Type 0 where
  pub kept : StepsKept file i n sizes sleepers opened firsts
  pub no_barrier : opened ≡ 0 → is_barrier (file_record file i) ≡ true → any_of is_sleep (before file i) ≡ true
  pub no_sleep : opened ≡ 0 → is_sleep (file_record file i) ≡ false
  pub decoded : decoded_of (file_record file i) ≡ Some b

pub one-step : {file : List ℕ} {count i n : ℕ} {sizes : List ℕ} {start opened : ℕ} {firsts : List ℕ} {b : Body} → StepsSoFar file count n sizes start → i < count
    → (opened ≡ 0 → i ≡ start) → StepsKept file i n sizes (sleepers_in (before file start)) opened firsts → decoded_of (file_record file i) ≡ Some b
    → OneStep file i n sizes (sleepers_in (before file start)) opened firsts b
one-step {file} s inside begun k decoded =
    record {
      kept = k;
      no_barrier = λ z. subst⁻¹ (λ (j : ℕ). is_barrier (file_record file j) ≡ true → any_of is_sleep (before file j) ≡ true) (begun z) (s.no_barrier (omega (arith, begun z)));
      no_sleep = λ z. subst⁻¹ (λ (j : ℕ). is_sleep (file_record file j) ≡ false) (begun z) (s.no_sleep (omega (arith, begun z)));
      decoded = decoded;
    }

module _ {file : List ℕ} {i n : ℕ} {sizes sleepers : List ℕ} {opened : ℕ} {firsts : List ℕ} {b : Body} (at : OneStep file i n sizes sleepers opened firsts b) where
  same : file_record file i ≡ record_of b
  same = told (file_record file i) at.decoded

  later-rule : later_rule (before file i) (record_of b) ≡ kept_rule n opened sizes firsts i b
  later-rule = later-ruled at.kept b (λ z e. at.no_barrier z (ap is_barrier same ∙ e)) (λ z. ap is_sleep (sym same) ∙ at.no_sleep z)

  pub same-rule : record_rule (before file i) (file_record file i) ≡ kept_rule n opened sizes firsts i b
  same-rule = marked-rule file i at.kept.least at.decoded ∙ later-rule

  -- an op without a row
  pub no-step-rule : limits_for b.op ≡ None → kept_rule n opened sizes firsts i b ≡ some (no_step b.op)
  no-step-rule e = simp (unknown b.op e) (go (eqb b.op op_plan_record) (eqb b.op op_barrier_record) (eqb b.op op_sleep_record))
    where
      go : (p q s : Bool) → refuse_if p protocol.bad_plan (refuse_if q protocol.bad_barrier (refuse_if s protocol.bad_sleep (some protocol.bad_op)))
          ≡ some (cond p protocol.bad_plan (cond q protocol.bad_barrier (cond s protocol.bad_sleep protocol.bad_op)))
      go true q s = refl
      go false true s = refl
      go false false true = refl
      go false false false = refl

  -- the record is taken: a step, since neither a barrier record nor a sleep record is taken here
  module _ (h : kept_rule n opened sizes firsts i b ≡ holds) where
    step_of : StepTaken (before file i) (record_of b)
    step_of =
        let no-barrier = rule-parts (eqb b.op op_barrier_record) protocol.bad_barrier _ (rule-parts (eqb b.op op_plan_record) protocol.bad_plan _ h).1 in
        let no-sleep = rule-parts (eqb b.op op_sleep_record) protocol.bad_sleep (kept_step_rule n opened sizes firsts i b) no-barrier.1 in
        ⊎_elim (λ t. absurd (true≢false (sym t.barrier ∙ no-barrier.0)))
        (⊎_elim (λ t. absurd (true≢false (sym t.sleep ∙ no-sleep.0))) (λ t. t))
        (later-taken (before file i) (record_of b) (later-rule ∙ h))

    pub worker-below : b.worker < n
    worker-below = omega (arith, step_of.below, at.kept.workers)

    pub step-more : {new : List ℕ} → WorkersOpened firsts opened (b.worker + 1) i new → StepsKept file (i + 1) n sizes sleepers (b.worker + 1) new
    step-more o =
        let k = at.kept in
        let opens = k.opens in
        let level = step_of.level in
        let all = length_before file i in
        record {
          least = omega arith;
          few = k.few;
          rules = rules-more file i k.rules (same-rule ∙ h);
          workers = workers-same file (i + 1) (omega arith) ∙ (sym (workers-same file i k.least) ∙ k.workers);
          opens = ap opened_in more ∙ (top_in-raised is_step (λ q. q.worker) (before file i) (record_of b) step_of.step level ∙ omega arith);
          size = o.size ∙ k.size;
          right = λ w l. elim (dec_lt w opened) [
            | yes l ↦ o.below w l ∙ (k.right w l ∙ sym (ap (λ (rs : List Record). first_in rs w) more ∙ first-one-opened (before file i) (record_of b) w (omega arith)))
            | no m ↦
                let first = first_step (before file i) (record_of b) step_of w in
                let none = first-unopened (before file i) w (omega arith) in
                let new = ap (λ (rs : List Record). first_in rs w) more in
                let below = worker-below in
                o.inside w (omega arith) l (let z = k.size in let f = k.few in omega arith) ∙ omega arith
          ];
          sizes_right = λ s l.
              k.sizes_right s l
              ∙ sym (ap (λ (rs : List Record). size_in rs s) more ∙ size_in-other (before file i) (record_of b) s (ap (λ (t : Bool). t && eqb b.register s) step_of.no_barrier));
          slept = ap sleepers_in more ∙ (sleepers-other (before file i) (record_of b) step_of.no_sleep ∙ k.slept);
        }
      where
        more : before file (i + 1) ≡ before file i ++ one (record_of b)
        more = before_more file i ∙ ap (λ (r : Record). before file i ++ one r) same

    pub step-taken : {part : List ℕ} → part ≡ replicate (length (mid_of opened (b.worker + 1 - opened) firsts)) i
        → StepsKept file (i + 1) n sizes sleepers (b.worker + 1) (put_mid opened (b.worker + 1 - opened) firsts part)
    step-taken e =
        let k = at.kept in
        step-more (filled firsts _ opened (b.worker + 1) i (omega (arith, step_of.level, k.opens)) (omega (arith, worker-below, k.few, k.size)) e)

-- plain steps of the worker that was opened last, up to its last one that is allowed
module _ {file : List ℕ} {n : ℕ} {sizes sleepers : List ℕ} {opened : ℕ} {firsts : List ℕ} {w : ℕ} (last : opened ≡ w + 1) (below : opened ≤ n) where
  module _ {i : ℕ} (k : StepsKept file i n sizes sleepers opened firsts) (p : PlainStep file n sizes w i) (room : i < get_or firsts w 0 + steps_limit) where
    abbrev b : Body
    b = p.body

    plain_step : OneStep file i n sizes sleepers opened firsts b
    plain_step = record { kept = k; no_barrier = λ z. absurd (omega arith); no_sleep = λ z. absurd (omega arith); decoded = p.decoded }

    plain-rule : kept_rule n opened sizes firsts i b ≡ holds
    plain-rule =
        let same = p.same in
        let begun = ap (λ (j : ℕ). get_or firsts j 0) same in
        simp (
          not-plan-record b.op p.known,
          not-barrier-record b.op p.known,
          not-sleep-record b.op p.known,
          p.known,
          lt-leb n b.worker (omega arith),
          le-ltb (b.worker + 1) opened (omega arith),
          lt-ltb b.worker opened (omega arith),
          lt-leb steps_limit (i - get_or firsts b.worker 0) (omega arith),
        )
        p.operands

    plain_more : StepsKept file (i + 1) n sizes sleepers opened firsts
    plain_more =
        let same = p.same in
        let again : b.worker + 1 ≡ opened = omega arith in
        subst (λ (j : ℕ). StepsKept file (i + 1) n sizes sleepers j firsts) again
        (step-more plain_step plain-rule (record { size = refl; inside = λ j l m h. absurd (omega arith); below = λ j l. refl }))

  pub stretch-more : (count : ℕ) (d : ℕ) {i r : ℕ} → r ≡ i + d → StepsKept file i n sizes sleepers opened firsts
      → ((j : ℕ) → i ≤ j → j < r → (j < count) × (j < get_or firsts w 0 + steps_limit)) → ((j : ℕ) → i ≤ j → j < r → PlainStep file n sizes w j)
      → StepsKept file r n sizes sleepers opened firsts × (verdict_from file count r ≡ verdict_from file count i)
  stretch-more count zero {i} {r} e k room plain =
      let here : r ≡ i = omega arith in
      (subst⁻¹ (λ (j : ℕ). StepsKept file j n sizes sleepers opened firsts) here k, ap (λ (j : ℕ). verdict_from file count j) here)
  stretch-more count (suc d) {i} {r} e k room plain =
      let p = plain i (omega arith) (omega arith) in
      let inside = room i (omega arith) (omega arith) in
      let rest = stretch-more count d {i = i + 1} {r = r} (omega arith) (plain_more k p inside.1) (λ j l. room j (omega arith)) (λ j l. plain j (omega arith)) in
      (rest.0, rest.1 ∙ sym (verdict-step file count i inside.0 (same-rule (plain_step k p inside.1) ∙ plain-rule k p inside.1)))

-- all records read
pub read_through : (file : List ℕ) (count : ℕ) → verdict_from file count count ≡ protocol.check_skips 0 (before file count)
unfolding protocol.check_records records_from
read_through file count = ap (λ (k : ℕ). protocol.check_records (before file count) (records_from file k count)) none_left_over
  where
    none_left_over : count - count ≡ 0
    none_left_over = omega arith

pub records-read : {file : List ℕ} {count n : ℕ} {sizes : List ℕ} {start opened : ℕ} {firsts new : List ℕ}
    → StepsKept file count n sizes (sleepers_in (before file start)) opened firsts
    → WorkersOpened firsts opened (workers_limit + 1) count new → RecordsRead file count sizes start new
records-read {file} {count} {opened = opened} k o =
    record {
      rules = k.rules;
      sizes_right = k.sizes_right;
      firsts_right = λ w h. elim (dec_lt w opened) [
        | yes l ↦ o.below w l ∙ k.right w l
        | no l ↦
            o.inside w (omega arith) h (let z = k.size in omega arith)
            ∙ sym (first-unopened (before file count) w (let z = k.opens in omega arith) ∙ length_before file count)
      ];
      sleepers = k.slept;
    }

-- no step yet
pub kept-first : {file : List ℕ} {count n : ℕ} {sizes : List ℕ} {start : ℕ} {firsts : List ℕ} → StepsSoFar file count n sizes start
    → length firsts ≡ workers_limit + 1 → StepsKept file start n sizes (sleepers_in (before file start)) 0 firsts
kept-first {file} {start = start} s size =
    record {
      least = s.least;
      few = s.few;
      rules = s.rules;
      workers = s.workers;
      opens = let h = ltb-false 0 (opened_in (before file start)) (sym (picks is_step (λ q. q.worker) (before file start)) ∙ s.no_step) in omega arith;
      size = size;
      right = λ w h. absurd (omega arith);
      sizes_right = s.sizes_right;
      slept = refl;
    }
