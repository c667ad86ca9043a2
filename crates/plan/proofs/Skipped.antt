-- The skips: the code's test, from where each worker's steps begin, is the protocol's, by the steps behind a skip.
use Prim.Native.Nat.{ℕ, zero, suc, ◌+◌, ◌-◌, ◌<◌, ◌≤◌}
use mathlib.Core.Bool.{Bool, true, ◌&&◌, ◌||◌}
use mathlib.Core.Path.{◌≡◌, sym, ap, ◌∙◌, subst}
use mathlib.Core.List.{List}
use native.Mathlib.Omega.{arith}
use native.Mathlib.Numerals.{add-one}
use native.Mathlib.Decide.{dec_lt}
use lib.Dec.{leb, ltb, eqb}
use lib.ListN.{length, get_or, drop}
use borrow.Author.Tests.{le-leb, eqb-true}
use Rattle.protocol.specs.Ops.{op_skip_zero, op_skip_nonzero}
use Rattle.protocol.specs.Format.{Record, records_from, known, row_in, is_step, is_skip, steps_in, first_in, workers_limit}
use Rattle.protocol.specs.Refusals as protocol
use Rattle.protocol.specs.Refusals.{ruled, refuse_if, holds, check_skips, skip_rule}
use Rattle.protocol.specs.WellFormed.{blank}
use Rattle.protocol.proofs.Bools.{split}
use Rattle.protocol.proofs.Records.{ltb-same, from, first-least, first-unopened}
use Rattle.protocol.proofs.Prefix.{Read}
use Rattle.plan.specs.Answer.{body_of}
use Rattle.plan.specs.Reading.{file_record, before}
use Rattle.plan.specs.Skipping.{too_far, SkipChecking}
use Rattle.plan.proofs.Readings.{length_before, workers-same, plan-first, read}

-- a record by its index, and the records behind it
get_or-records : (file : List ℕ) (k i j : ℕ) → j < k → get_or (records_from file k i) j blank ≡ file_record file (i + j)
unfolding records_from
get_or-records file zero i j h = absurd (omega arith)
get_or-records file (suc k) i zero h = ap (λ (m : ℕ). file_record file m) (omega arith)
get_or-records file (suc k) i (suc j) h = get_or-records file k (suc i) j (omega arith) ∙ ap (λ (m : ℕ). file_record file m) (omega arith)

drop-records : (file : List ℕ) (j k i : ℕ) → drop j (records_from file (k + j) i) ≡ records_from file k (i + j)
unfolding records_from
drop-records file zero k i = ap (λ (m : ℕ). records_from file m i) none_more ∙ ap (λ (m : ℕ). records_from file k m) same
  where
    none_more : k + 0 ≡ k
    none_more = omega arith

    same : i ≡ i + 0
    same = omega arith
drop-records file (suc j) k i =
    ap (λ (m : ℕ). drop (suc j) (records_from file m i)) more
    ∙ (drop-records file j k (suc i) ∙ ap (λ (m : ℕ). records_from file k m) (omega arith))
  where
    more : k + suc j ≡ suc (k + j)
    more = omega arith

module _ (file : List ℕ) (count : ℕ) (firsts : List ℕ) (checking : SkipChecking file count firsts) (i : ℕ) (h : i < count) where
  abbrev rs : List Record
  rs = before file count

  -- the record at hand, and what is left behind it
  abbrev r : Record
  r = file_record file i

  abbrev rest : List Record
  rest = records_from file (count - (i + 1)) (i + 1)

  reading : Read rs
  reading = read file count checking.least checking.rules

  at : get_or rs i blank ≡ r
  at = get_or-records file count 0 i h ∙ ap (λ (m : ℕ). file_record file m) (omega arith)

  skip-is-step : is_skip r.op ≡ true → is_step r ≡ true
  unfolding known row_in
  skip-is-step e =
      split (eqb r.op op_skip_zero) (λ q. ap known (eqb-true r.op op_skip_zero q))
      (λ q. ap known (eqb-true r.op op_skip_nonzero (sym (ap (λ (b : Bool). b || eqb r.op op_skip_nonzero) q) ∙ e)))

  first-begun : is_skip r.op ≡ true → first_in rs r.worker ≤ i
  first-begun e =
      first-least rs r.worker i blank (omega (arith, length_before file count, h))
      (ap (λ (q : Record). from r.worker q) at
      ∙ (ap (λ (t : Bool). t && leb r.worker r.worker) (skip-is-step e) ∙ le-leb r.worker r.worker (omega arith)))

  -- a skip's worker, and its steps behind the skip
  pub worker-below : is_skip r.op ≡ true → r.worker < workers_limit
  worker-below e = elim (dec_lt r.worker workers_limit) [
    | yes l ↦ l
    | no l ↦
        let o = reading.opened in
        let n = workers-same file count checking.least in
        let p = (plan-first file count checking.least checking.rules).most in
        let u = first-unopened rs r.worker (omega arith) in
        let f = first-begun e in
        let m = length_before file count in
        absurd (omega arith)
  ]

  behind : is_skip r.op ≡ true → length (steps_in (drop (suc i) rs) r.worker) + suc i ≡ first_in rs (suc r.worker)
  behind e =
      let w = r.worker in
      let begun = first-begun e in
      let inside : i < length rs = omega (arith, length_before file count, h) in
      let ends : i < first_in rs (suc w)
      = subst (λ (q : Record). i < first_in rs (suc q.worker)) at (reading.fit i inside (ap is_step at ∙ skip-is-step e)).ends in
      let together = reading.together w in
      let stands = (reading.placed w (i - first_in rs w) (omega arith)).behind in
      let same = ap (λ (m : ℕ). length (steps_in (drop (suc m) rs) w)) here in
      omega arith
    where
      here : first_in rs r.worker + (i - first_in rs r.worker) ≡ i
      here = let f = first-begun e in omega arith

  left : drop (suc i) rs ≡ rest
  left =
      ap (λ (k : ℕ). drop (suc i) (records_from file k 0)) parts
      ∙ (drop-records file (suc i) (count - (i + 1)) 0 ∙ ap (λ (m : ℕ). records_from file (count - (i + 1)) m) same)
    where
      parts : count ≡ count - (i + 1) + suc i
      parts = omega arith

      same : 0 + suc i ≡ i + 1
      same = omega arith

  -- the code's test is the rule
  skip-ruled : skip_rule r rest ≡ refuse_if (too_far firsts i (body_of r)) protocol.skip_too_far holds
  unfolding skip_rule
  skip-ruled =
      ap (λ (t : Bool). refuse_if t protocol.skip_too_far holds)
      (split (is_skip r.op)
      (λ e.
      ap (λ (t : Bool). is_skip r.op && t)
      (ap (λ (qs : List Record). ltb (length (steps_in qs r.worker)) r.number) (sym left)
      ∙ (let far = behind e in
      let first = checking.right (r.worker + 1) (let l = worker-below e in omega arith) in
      let next = ap (λ (m : ℕ). first_in rs m) (add-one r.worker) in
      ltb-same (length (steps_in (drop (suc i) rs) r.worker)) r.number (get_or firsts (r.worker + 1) 0) (i + 1 + r.number)
      (λ q. omega arith) (λ q. omega arith))))
      (λ e. ap (λ (t : Bool). t && ltb (length (steps_in rest r.worker)) r.number) e
      ∙ sym (ap (λ (t : Bool). t && ltb (get_or firsts (r.worker + 1) 0) (i + 1 + r.number)) e)))

  -- one record of the test
  pub skips-next : (t : Bool) → too_far firsts i (body_of r) ≡ t
      → check_skips i (records_from file (count - i) i) ≡ ruled (refuse_if t protocol.skip_too_far holds) i (check_skips (i + 1) rest)
  unfolding check_skips records_from
  skips-next t e =
      ap (λ (k : ℕ). check_skips i (records_from file k i)) one_more
      ∙ (ap (λ (m : ℕ). ruled (skip_rule r (records_from file (count - (i + 1)) m)) i (check_skips m (records_from file (count - (i + 1)) m))) (sym (add-one i))
      ∙ ap (λ (x : protocol.Rule). ruled x i (check_skips (i + 1) rest)) (skip-ruled ∙ ap (λ (t : Bool). refuse_if t protocol.skip_too_far holds) e))
    where
      one_more : count - i ≡ suc (count - (i + 1))
      one_more = omega arith
