-- The sleep records: the code's test is the rule, and what it keeps of the records before one stays true of one record more.
use Prim.Native.Nat.{ℕ, ◌+◌, ◌<◌, ◌≤◌}
use mathlib.Core.Bool.{Bool, true, false, cond, ◌&&◌, ◌||◌, true≢false}
use mathlib.Core.Path.{◌≡◌, refl, sym, ap, ◌∙◌, subst⁻¹}
use mathlib.Core.List.{List, [], ◌∷◌, ◌++◌}
use native.Mathlib.Omega.{arith}
use native.Mathlib.Decide.{ℕ_discrete}
use lib.Dec.{leb, ltb, eqb}
use lib.ListN.{get_or, set, replicate, length-set, get_or-replicate}
use lib.Seq.{get_or-set_same, get_or-set_other}
use borrow.Author.Tests.{ltb-false, lt-ltb, eq-eqb, ne_eqb}
use Rattle.protocol.specs.Ops.{op_plan_record, op_barrier_record, op_sleep_record}
use Rattle.protocol.specs.Format.{Record, workers_in, is_barrier, is_sleep, is_step, size_in, sleepers_in, workers_limit}
use Rattle.protocol.specs.Refusals as protocol
use Rattle.protocol.specs.Refusals.{any_of, refuse_if, holds, record_rule, later_rule, wrong_sleep, barrier_record_rule, sleep_record_rule, step_rule}
use Rattle.protocol.specs.Rounds.{member}
use Rattle.protocol.proofs.Bools.{or_assoc, or_left, or_right, or-false, or-holds, or-fails}
use Rattle.protocol.proofs.Records.{one as one_of_lem, any_of-one, any-reaches, picks, dozing_in, top_in-raised, size_in-other, sleepers-new, no-sleepers}
use Rattle.protocol.proofs.Taken.{sleep-no-step, sleep-record}
use Rattle.format.specs.Fates.{code_going, code_asleep}
use Rattle.plan.specs.Answer.{record_of, decoded_of}
use Rattle.std.specs.Prelude.{Some}
use Rattle.plan.specs.Reading.{file_record, before, RulesHold}
use Rattle.plan.specs.Sleeping.{refuses_sleep, first_code, FirstFates, SleepersComing, HeadRead}
use Rattle.plan.proofs.Readings.{Body, before_more, told, marked-rule, rules-more, workers-same}

-- what the reading of sleep records has kept of the records before record i
pub record SleepersAt (file : List ℕ) (count n start i low : ℕ) (fates : List ℕ) : Type 0 where
  pub least : start ≤ i
  pub most : i ≤ count
  pub rules : RulesHold file i
  pub no_step : any_of is_step (before file i) ≡ false
  pub sizes : (b : ℕ) → size_in (before file i) b ≡ size_in (before file start) b
  pub lowest : dozing_in (before file i) ≡ low
  pub bounded : low ≤ n
  pub begun : low ≡ 0 → i ≡ start
  pub sleepers : FirstFates (sleepers_in (before file i)) fates

pub sleepers-first : {file : List ℕ} {count n start : ℕ} → SleepersComing file count n start
    → SleepersAt file count n start start 0 (replicate workers_limit code_going)
unfolding member
sleepers-first {file} {start = start} c =
    record {
      least = omega arith;
      most = c.most;
      rules = c.rules;
      no_step = c.no_step;
      sizes = λ b. refl;
      lowest = let h = ltb-false 0 (dozing_in (before file start)) (sym (picks is_sleep (λ q. q.worker) (before file start)) ∙ c.no_sleeper) in omega arith;
      bounded = omega arith;
      begun = λ z. refl;
      sleepers =
          record {
            size = refl;
            right = λ w h.
                get_or-replicate workers_limit w code_going 0 h
                ∙ sym (ap (λ (ws : List ℕ). first_code (member w ws)) (no-sleepers (before file start) c.no_sleeper));
          };
    }

member-more : (w v : ℕ) (ws : List ℕ) → member w (ws ++ (v ∷ [])) ≡ member w ws || eqb w v
unfolding member
member-more w v [] = or-false (eqb w v)
member-more w v (u ∷ us) = ap (λ (b : Bool). eqb w u || b) (member-more w v us) ∙ or_assoc (eqb w u) (member w us) (eqb w v)

-- one sleep record more
module _ {file : List ℕ} {count n start i low : ℕ} {fates : List ℕ} {b : Body} (c : SleepersComing file count n start)
    (at : SleepersAt file count n start i low fates) (decoded : decoded_of (file_record file i) ≡ Some b) (op : b.op ≡ op_sleep_record) where
  abbrev rs : List Record
  rs = before file i

  abbrev r : Record
  r = record_of b

  some : 1 ≤ i
  some = omega (arith, c.least, at.least)

  workers : workers_in rs ≡ n
  workers = workers-same file i some ∙ (sym (workers-same file start c.least) ∙ c.workers)

  -- the code's test is the rule
  pub sleep-rule : record_rule (before file i) (file_record file i) ≡ refuse_if (refuses_sleep low n b) protocol.bad_sleep holds
  unfolding later_rule sleep_record_rule
  sleep-rule =
      marked-rule file i some decoded
      ∙ (ap (λ (o : ℕ). refuse_if (eqb o op_plan_record) protocol.bad_plan
      (cond (eqb o op_barrier_record) (barrier_record_rule rs r) (cond (eqb o op_sleep_record) (sleep_record_rule rs r) (step_rule rs r)))) op
      ∙ (ap (λ (k : ℕ). refuse_if (((any_of (λ q. is_sleep q && leb b.worker q.worker) rs) || any_of is_step rs) || wrong_sleep k r) protocol.bad_sleep holds) workers
      ∙ ap (λ (t : Bool). refuse_if (t || wrong_sleep n r) protocol.bad_sleep holds)
      (or-fails _ at.no_step ∙ (any-reaches is_sleep (λ q. q.worker) b.worker rs ∙ ap (λ (k : ℕ). ltb b.worker k) at.lowest))))

  module _ (fine : refuses_sleep low n b ≡ false) where
    pub sleeper-below : b.worker < n
    sleeper-below = (sleep-record n r (eq-eqb _ _ op) (or_right (ltb b.worker low) fine)).most

    sleep : is_sleep r ≡ true
    sleep = eq-eqb _ _ op

    more : before file (i + 1) ≡ before file i ++ one_of_lem r
    more = before_more file i ∙ ap (λ (r : Record). before file i ++ one_of_lem r) (told (file_record file i) decoded)

    now-asleep : (w : ℕ) → w < workers_limit → get_or (set fates b.worker code_asleep) w 0 ≡ first_code (member w (sleepers_in rs) || eqb w b.worker)
    now-asleep w h = elim (ℕ_discrete w b.worker) [
      | yes q ↦
          ap (λ (k : ℕ). get_or (set fates b.worker code_asleep) k 0) q
          ∙ (get_or-set_same fates b.worker code_asleep 0 (omega (arith, at.sleepers.size, sleeper-below, c.few))
          ∙ sym (ap first_code (or-holds (member w (sleepers_in rs)) (eq-eqb w b.worker q))))
      | no q ↦
          get_or-set_other fates b.worker w code_asleep 0 q
          ∙ (at.sleepers.right w h ∙ sym (ap first_code (or-fails (member w (sleepers_in rs)) (ne_eqb w b.worker q))))
    ]

    pub sleeper-more : i < count → SleepersAt file count n start (i + 1) (b.worker + 1) (set fates b.worker code_asleep)
    sleeper-more inside =
        let ascends = ltb-false b.worker low (or_left (ltb b.worker low) _ fine) in
        let lowest = at.lowest in
        record {
          least = omega (arith, at.least);
          most = omega arith;
          rules = rules-more file i at.rules (sleep-rule ∙ ap (λ (t : Bool). refuse_if t protocol.bad_sleep holds) fine);
          no_step =
              ap (λ (l : List Record). any_of is_step l) more
              ∙ (any_of-one is_step (before file i) r ∙ (ap (λ (t : Bool). t || is_step r) at.no_step ∙ sleep-no-step r sleep));
          sizes = λ k.
              ap (λ (l : List Record). size_in l k) more
              ∙ (size_in-other (before file i) r k (ap (λ (o : ℕ). eqb o op_barrier_record && eqb b.register k) op) ∙ at.sizes k);
          lowest = ap dozing_in more ∙ (top_in-raised is_sleep (λ q. q.worker) (before file i) r sleep (omega arith) ∙ omega arith);
          bounded = omega (arith, sleeper-below);
          begun = λ z. absurd (omega arith);
          sleepers =
              record {
                size = length-set fates b.worker code_asleep ∙ at.sleepers.size;
                right = λ w h.
                    now-asleep w h
                    ∙ sym (ap (λ (l : List Record). first_code (member w (sleepers_in l))) more
                    ∙ (ap (λ (ws : List ℕ). first_code (member w ws)) (sleepers-new (before file i) r sleep) ∙ ap first_code (member-more w b.worker (sleepers_in rs))));
              };
        }

-- the end of them
pub no-sleep-record : (r : Record) {b : Body} → decoded_of r ≡ Some b → (b.op ≡ op_sleep_record → ⊥) → is_sleep r ≡ false
no-sleep-record r e n = ap is_sleep (told r e) ∙ ne_eqb _ _ n

pub head_read : {file : List ℕ} {count n start i low : ℕ} {fates : List ℕ} → SleepersComing file count n start → SleepersAt file count n start i low fates
    → (i < count → is_sleep (file_record file i) ≡ false) → HeadRead file count start i
head_read {file} {count} {n} {start} {i} {low} c at last =
    record {
      rules = at.rules;
      no_step = at.no_step;
      sizes = at.sizes;
      no_barrier = λ h e.
          picks is_sleep (λ q. q.worker) (before file i)
          ∙ lt-ltb 0 (dozing_in (before file i)) (omega (arith, at.lowest, some h e));
      no_sleep = last;
    }
  where
    some : i < count → is_barrier (file_record file i) ≡ true → 0 < low
    some h e = elim (ℕ_discrete low 0) [
      | yes z ↦
          absurd (true≢false (sym e ∙ subst⁻¹ (λ (j : ℕ). is_barrier (file_record file j) ≡ false) (at.begun z) (c.no_barrier (omega (arith, at.begun z)))))
      | no z ↦ omega arith
    ]
