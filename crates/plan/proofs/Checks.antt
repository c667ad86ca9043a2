-- The check of a file, up to the records behind the plan record, and what it leaves.
use Prim.Native.Nat.{ℕ, ◌+◌, ◌-◌, ◌/◌, ◌≤◌}
use mathlib.Core.Bool.{Bool, false}
use mathlib.Core.Path.{◌≡◌, sym, ap, ◌∙◌, subst, subst⁻¹}
use mathlib.Core.List.{List, []}
use native.Mathlib.Omega.{arith}
use lib.ListN.{length, get_or}
use Rattle.std.specs.Simd.{first_chunks}
use Rattle.protocol.specs.Format.{record_length, record_from, records_from, record_count, records, workers_limit, workers_in, size_in, first_in, sleepers_in}
use Rattle.protocol.specs.Refusals as protocol
use Rattle.protocol.specs.Refusals.{refuse_if, holds, ruled, wrong_length, wrong_plan, length_rule, plan_rule, record_rule, check_records}
use Rattle.plan.specs.Answer.{record_of, decoded_of, refused_as}
use Rattle.plan.specs.Reading.{file_of, file_record, before, verdict_from, RulesHold, BarriersRead}
use Rattle.plan.specs.Sleeping.{FirstFates, SleepersComing, SleepersRead}
use Rattle.plan.specs.Stepping.{StepsSoFar, RecordsRead}
use Rattle.plan.specs.Skipping.{SkipChecking}
use Rattle.plan.specs.Checking.{LaidOut, CheckedAs, whole}
use Rattle.plan.specs.declared.barriers.Barriers.{Barriers}
use Rattle.plan.specs.declared.answer.Refused.{Refused}
use Rattle.std.specs.Prelude.{Some, Result, Err, IsErrAnd}
use Rattle.plan.specs.declared.check.Head.{Head}
use Rattle.plan.specs.declared.check.Layout.{Layout}
use Rattle.plan.proofs.Recorded.{decoded-at, file_of-chunks}
use Rattle.plan.proofs.Readings.{Body, verdict-step, workers-same, told, rules-first}
use Rattle.protocol.proofs.Accepted.{length-right}
use Rattle.protocol.proofs.Taken.{plan-record}
use Rattle.std.proofs.lemmas.Result.{err_from_is_err_and}

-- the rule of the length, then that of the plan record, then the records behind it
pub by_length : (file : List ℕ) {t : Bool} → wrong_length (length file) ≡ t
    → protocol.check file ≡ ruled (refuse_if t protocol.bad_length holds) 0 (check_records [] (records file))
unfolding protocol.check length_rule
by_length file e = ap (λ (t : Bool). ruled (refuse_if t protocol.bad_length holds) 0 (check_records [] (records file))) e

-- a file of a right length, and its records
pub record Cut (file : List ℕ) (rs : List (List ℕ)) : Type 0 where
  pub fine : wrong_length (length file) ≡ false
  pub chunks : rs ≡ first_chunks record_length (length file / record_length) file
  pub many : length rs ≡ length file / record_length

pub cut_by : {file : List ℕ} {rs : List (List ℕ)} → wrong_length (length file) ≡ false
    → rs ≡ first_chunks record_length (length file / record_length) file → length rs ≡ length file / record_length → Cut file rs
cut_by fine chunks many = record { fine = fine; chunks = chunks; many = many }

module _ {file : List ℕ} {rs : List (List ℕ)} (cut : Cut file rs) where
  pub some_records : 1 ≤ length rs
  unfolding record_count
  some_records = omega (arith, cut.many, (length-right file cut.fine).some)

  pub all_records : records file ≡ before (file_of rs) (length rs)
  unfolding records record_count
  all_records =
      ap (λ (k : ℕ). records_from file k 0) (sym cut.many)
      ∙ ap (λ (f : List ℕ). records_from f (length rs) 0)
      (sym (ap file_of cut.chunks ∙ file_of-chunks (length file / record_length) file (length-right file cut.fine).bytes))

  pub by_first : {rule : protocol.Rule} → record_rule [] (file_record (file_of rs) 0) ≡ rule
      → protocol.check file ≡ ruled rule 0 (verdict_from (file_of rs) (length rs) 1)
  unfolding records_from
  by_first e =
      by_length file cut.fine
      ∙ (ap (λ rs. check_records [] rs) all_records
      ∙ (ap (λ (k : ℕ). check_records [] (records_from (file_of rs) k 0)) all_left ∙ verdict-step (file_of rs) (length rs) 0 (omega (arith, some_records)) e))
    where
      all_left : length rs ≡ length rs - 0
      all_left = omega arith

-- the rule of the plan record, by the code's test
pub plan-rule : (file : List ℕ) {b : Body} {t : Bool} → decoded_of (file_record file 0) ≡ Some b → wrong_plan (record_of b) ≡ t
    → record_rule [] (file_record file 0) ≡ refuse_if t protocol.bad_plan holds
unfolding record_rule plan_rule
plan-rule file e p = ap (λ r. record_rule [] r) (told (file_record file 0) e) ∙ ap (λ (t : Bool). refuse_if t protocol.bad_plan holds) p

-- the first record is a plan record within its limits
pub record FirstTaken (file : List ℕ) (rs : List (List ℕ)) (first : Body) : Type 0 where
  pub cut : Cut file rs
  pub decoded : decoded_of (record_from (get_or rs 0 []) 0) ≡ Some first
  pub right : wrong_plan (record_of first) ≡ false

pub first_taken : {file : List ℕ} {rs : List (List ℕ)} {first : Body} → Cut file rs → decoded_of (record_from (get_or rs 0 []) 0) ≡ Some first
    → wrong_plan (record_of first) ≡ false → FirstTaken file rs first
first_taken cut decoded right = record { cut = cut; decoded = decoded; right = right }

module _ {file : List ℕ} {rs : List (List ℕ)} {first : Body} (taken : FirstTaken file rs first) where
  some : 1 ≤ length rs
  some = some_records taken.cut

  decoded : decoded_of (file_record (file_of rs) 0) ≡ Some first
  decoded = decoded-at rs 0 taken.decoded

  rule : record_rule [] (file_record (file_of rs) 0) ≡ holds
  rule = plan-rule (file_of rs) decoded taken.right

  pub rules-begun : RulesHold (file_of rs) 1
  rules-begun = rules-first (file_of rs) rule

  pub behind-first : protocol.check file ≡ verdict_from (file_of rs) (length rs) 1
  behind-first = by_first taken.cut rule

  -- the worker byte is the number of workers
  pub workers-told : (file_record (file_of rs) 0).worker ≡ first.worker
  workers-told = ap (λ r. r.worker) (told (file_record (file_of rs) 0) decoded)

  -- up to the sleep records, the steps, the skips and the end
  pub behind-barriers : {r : Barriers} → BarriersRead (file_of rs) (length rs) r → protocol.check file ≡ verdict_from (file_of rs) (length rs) r.next
  behind-barriers b = behind-first ∙ sym b.verdict

  pub sleepers-coming : {r : Barriers} → BarriersRead (file_of rs) (length rs) r → SleepersComing (file_of rs) (length rs) first.worker r.next
  sleepers-coming {r} b =
      record {
        least = b.least;
        most = b.most;
        workers = workers-same (file_of rs) r.next b.least ∙ workers-told;
        few = (plan-record (record_of first) taken.right).most;
        rules = b.head.rules;
        no_step = b.head.no_step;
        no_sleeper = b.no_sleeper;
        no_barrier = b.no_barrier;
      }

  module _ {r : Barriers} (b : BarriersRead (file_of rs) (length rs) r) {next : ℕ} {fates : List ℕ} (s : SleepersRead (file_of rs) (length rs) r.next next fates) where
    pub behind-sleepers : protocol.check file ≡ verdict_from (file_of rs) (length rs) next
    behind-sleepers = behind-barriers b ∙ sym s.verdict

    begun : 1 ≤ next
    begun = omega (arith, b.least, s.least)

    pub steps-so-far : StepsSoFar (file_of rs) (length rs) first.worker r.sizes next
    steps-so-far =
        let h = s.head in
        record {
          least = begun;
          most = s.most;
          workers = workers-same (file_of rs) next begun ∙ workers-told;
          few = (plan-record (record_of first) taken.right).most;
          rules = h.rules;
          no_step = h.no_step;
          size = b.head.size;
          sizes_right = λ k l. b.head.right k l ∙ sym (h.sizes k);
          no_barrier = h.no_barrier;
          no_sleep = h.no_sleep;
        }

    module _ {firsts : List ℕ} (read : RecordsRead (file_of rs) (length rs) r.sizes next firsts) where
      pub skip-checking : SkipChecking (file_of rs) (length rs) firsts
      skip-checking = record { least = some; rules = read.rules; right = read.firsts_right }

      pub laid_out : length firsts ≡ workers_limit + 1 → LaidOut file (record { workers = first.worker; sizes = r.sizes; firsts = firsts; fates = fates })
      laid_out nine =
          let all = sym (all_records taken.cut) in
          record {
            workers = sym workers-told ∙ sym (workers-same (file_of rs) (length rs) some) ∙ ap workers_in all;
            eight = b.head.size;
            sizes = λ k h. read.sizes_right k h ∙ ap (λ rs. size_in rs k) all;
            nine = nine;
            firsts = λ w h. read.firsts_right w h ∙ ap (λ rs. first_in rs w) all;
            fates = subst (λ rs. FirstFates (sleepers_in rs) fates) all (subst⁻¹ (λ (ws : List ℕ). FirstFates ws fates) read.sleepers s.first);
          }

-- a refusal is the verdict, and leaves no layout
pub turned_down : {file : List ℕ} {e : Refused} → protocol.check file ≡ refused_as e → CheckedAs file (Err e)
turned_down bad = record { verdict = sym bad; layout = tt }

-- at the exit of a `?`, of an answer that is the layout itself
pub turned_down_by : {file : List ℕ} {r : Result Layout Refused} (e : Refused) → IsErrAnd r (λ y. y ≡ e) → protocol.check file ≡ refused_as e → CheckedAs file r
turned_down_by {r = r} e out bad = let p = err_from_is_err_and r out in rw (p.1, p.2) (turned_down bad)

-- and of one that `read_parts` gives, with the two arrays beside it
pub whole_turned_down_by : {file : List ℕ} (r : Result Head Refused) (firsts fates : List ℕ) (e : Refused) → IsErrAnd r (λ y. y ≡ e)
    → protocol.check file ≡ refused_as e → CheckedAs file (whole r firsts fates)
whole_turned_down_by r _ _ e out bad = let p = err_from_is_err_and r out in turned_down_by e (rw p.1 p.2) bad
