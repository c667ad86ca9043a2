-- The step at a worker's place. Callers want `fetched`, `in-range` and what comes before them in the last module.
use Prim.Native.Nat.{ℕ, zero, suc, ◌+◌, ◌*◌, ◌<◌, ◌≤◌}
use mathlib.Core.Bool.{Bool, true, false, not, ◌&&◌}
use mathlib.Core.Path.{◌≡◌, refl, sym, ap, ◌∙◌, subst⁻¹}
use mathlib.Core.List.{List}
use native.Mathlib.Omega.{arith}
use native.Mathlib.Decide.{dec_lt}
use lib.Dec.{eqb}
use lib.ListN.{length, get_or, get_or-eq_default}
use borrow.Author.Tests.{lt-ltb, le-ltb, eq-eqb, eqb-false, not-true, not-false}
use Rattle.protocol.specs.Ops.{op_set, op_load, op_store, op_add, op_subtract, op_skip_zero, op_skip_nonzero, op_wait, op_barrier, op_exit, op_start, syncs_from}
use Rattle.protocol.specs.Format as format
use Rattle.protocol.specs.Format.{register_count, steps_limit, Row, table, row_in, is_step, record_from, records_from, record_count, records, Step, sync, exit, step_of}
use Rattle.protocol.specs.Format.{steps_in, size_in, first_in, plan_of, barrier_count, record_length, size_limit, records_limit, address_limit, lock_limit}
use Rattle.protocol.specs.Refusals.{accepted, check, wrong_operand, any_of}
use Rattle.protocol.specs.Steps.{steps_of, step_at}
use Rattle.protocol.specs.Turns.{workers_of}
use Rattle.protocol.proofs.Bools.{and_left}
use Rattle.protocol.proofs.Covered.{operands-inside}
use Rattle.protocol.proofs.Records.{names, first-inside}
use Rattle.protocol.proofs.Tabled.{Every, row-of}
use Rattle.protocol.proofs.Points.{from_first, before-first}
use Rattle.protocol.specs.WellFormed.{blank}
use Rattle.protocol.proofs.Accepted.{AcceptedFile, accepted-file, length-records, workers-of, steps-of, size_of}
use Rattle.plan.specs.Answer.{body_of}
use Rattle.plan.specs.declared.decode.Record.{Record}
use Rattle.moves.specs.Moves.{end_body, fetched_as, step_of_body, InRange}

module _ (file : List ℕ) (first end place : ℕ) where
  pub fetched-step : first + place < end → fetched_as file first end place ≡ body_of (record_from file (record_length * (first + place)))
  unfolding fetched_as
  fetched-step h = rw (lt-ltb (first + place) end h)

  pub fetched-end : end ≤ first + place → fetched_as file first end place ≡ end_body
  unfolding fetched_as
  fetched-end h = rw (le-ltb (first + place) end h)

step-body : (r : format.Record) → step_of_body (body_of r) ≡ step_of r
unfolding step_of_body step_of
step-body r = refl

step_end : step_of_body end_body ≡ sync exit
unfolding step_of_body step_of row_in
step_end = refl

-- what the limits of every row say of its op
record Ranged (x : Row) : Type 0 where
  least : op_set ≤ x.op
  most : x.op ≤ op_start
  apart : x.op < syncs_from → x.op ≤ op_skip_nonzero
  named : x.op ≤ op_skip_nonzero → x.registers < register_count
  address : op_load ≤ x.op → x.op ≤ op_store → x.most ≤ address_limit
  operand : op_add ≤ x.op → x.op ≤ op_subtract → x.most < register_count
  skip : op_skip_zero ≤ x.op → x.op ≤ op_skip_nonzero → (1 ≤ x.least) × (x.most < steps_limit)
  object : syncs_from ≤ x.op → x.most ≤ lock_limit
  queue : op_wait ≤ x.op → x.op ≤ op_barrier → x.most < barrier_count
  exit : x.op ≡ op_exit → x.most ≡ 0

table_ranged : Every Ranged table
table_ranged = search (tt, arith) depth 40 fits 4000

-- a step record within its row's limits
ranged : (n : ℕ) (sizes : List ℕ) (r : format.Record) → is_step r ≡ true → wrong_operand n r ≡ false
    → (r.op ≡ op_barrier → r.number < barrier_count → (1 ≤ get_or sizes r.number 0) × (get_or sizes r.number 0 ≤ size_limit))
    → InRange n sizes (body_of r)
ranged n sizes r step fits sized =
    let f = row-of Ranged table_ranged r step in
    let x = f.row in
    let h = f.holds in
    let op = f.op in
    let inside = operands-inside n r x f.is_row fits in
    let register = inside.register in
    let low = inside.least in
    let high = inside.most in
    let queue : op_wait ≤ r.op → r.op ≤ op_barrier → r.number < barrier_count = λ l m. let k = h.queue (omega arith) (omega arith) in omega arith in
    record {
      own = λ e. let early = before-first e in let m = h.apart (omega arith) in let k = h.least in omega arith;
      last = let k = h.most in omega arith;
      named = λ l. let k = h.named (omega arith) in omega arith;
      address = λ l m. let k = h.address (omega arith) (omega arith) in omega arith;
      operand = λ l m. let k = h.operand (omega arith) (omega arith) in omega arith;
      skip = λ l m. let k = h.skip (omega arith) (omega arith) in omega arith;
      object = λ e. let late = from_first e in let k = h.object (omega arith) in omega arith;
      queue = queue;
      exit = λ e. let k = h.exit (omega arith) in omega arith;
      target = inside.target;
      size = λ e. sized e (queue (omega arith) (omega arith));
    }

ranged-end : (n : ℕ) (sizes : List ℕ) → InRange n sizes end_body
ranged-end n sizes =
    record {
      own = λ e. let early = before-first e in absurd (omega arith);
      last = omega arith;
      named = λ l. omega arith;
      address = λ l m. omega arith;
      operand = λ l m. omega arith;
      skip = λ l m. omega arith;
      object = λ e. omega arith;
      queue = λ l m. omega arith;
      exit = λ e. refl;
      target = λ e. absurd (omega arith);
      size = λ e. absurd (omega arith);
    }

record-from : (file : List ℕ) (k i j : ℕ) → j < k → get_or (records_from file k i) j blank ≡ record_from file (record_length * (i + j))
unfolding records_from
record-from file zero i j h = absurd (omega arith)
record-from file (suc k) i zero h = ap (λ (n : ℕ). record_from file (record_length * n)) (omega arith)
record-from file (suc k) i (suc j) h = record-from file k (suc i) j (omega arith) ∙ ap (λ (n : ℕ). record_from file (record_length * n)) (omega arith)

record-at : (file : List ℕ) (i : ℕ) → i < record_count file → get_or (records file) i blank ≡ record_from file (record_length * i)
unfolding records
record-at file i h = record-from file (record_count file) 0 i h ∙ ap (λ (n : ℕ). record_from file (record_length * n)) (omega arith)

-- An accepted file: the records of worker w are those from `first` to before `end`.
module _ (file : List ℕ) (ok : check file ≡ accepted) where
  abbrev rs : List format.Record
  rs = records file

  a : AcceptedFile file
  a = accepted-file file ok

  -- what `fetch` requires
  pub fetchable : (w : ℕ) → (record_length * first_in rs (suc w) ≤ length file) × (first_in rs (suc w) ≤ records_limit) × (first_in rs w ≤ first_in rs (suc w))
  fetchable w =
      omega (arith, first-inside rs (suc w), length-records file, a.size.bytes, a.size.most, a.records.read.together w)

  pub ends-inside : (w : ℕ) → first_in rs (suc w) ≤ record_count file
  ends-inside w = omega (arith, first-inside rs (suc w), length-records file)

  -- where a worker's steps end
  pub steps-end : (w : ℕ) → first_in rs w + length (steps_of (plan_of file) w) ≡ first_in rs (suc w)
  steps-end w = ap (λ (ss : List Step). first_in rs w + length ss) (steps-of rs a.records w) ∙ a.records.read.together w

  -- a place within the steps, and within the records
  pub within : (w place : ℕ) → place < length (steps_of (plan_of file) w) → first_in rs w + place < first_in rs (suc w)
  within w place h = omega (arith, steps-end w)

  fetched-record : (w place : ℕ) → first_in rs w + place < first_in rs (suc w)
      → fetched_as file (first_in rs w) (first_in rs (suc w)) place ≡ body_of (get_or rs (first_in rs w + place) blank)
  fetched-record w place h =
      fetched-step file (first_in rs w) (first_in rs (suc w)) place h
      ∙ ap body_of (sym (record-at file (first_in rs w + place) (omega (arith, ends-inside w))))

  -- The fetched record is the step at the place.
  pub fetched : (w place : ℕ) → step_of_body (fetched_as file (first_in rs w) (first_in rs (suc w)) place) ≡ step_at (plan_of file) w place
  fetched w place =
      elim (dec_lt (first_in rs w + place) (first_in rs (suc w))) [
        | yes h ↦
            let s = a.records.read.placed w place (omega (arith, a.records.read.together w)) in
            ap step_of_body (fetched-record w place h) ∙ (step-body (get_or rs (first_in rs w + place) blank) ∙ sym s.step)
        | no h ↦
            ap step_of_body (fetched-end file (first_in rs w) (first_in rs (suc w)) place (omega arith))
            ∙ (step_end ∙ sym (get_or-eq_default (steps_in rs w) (sync exit) {n = place} (omega (arith, a.records.read.together w))))
      ]
      ∙ ap (λ (ss : List Step). get_or ss place (sync exit)) (sym (steps-of rs a.records w))

  -- a barrier that a record names has a size from 1 to 8
  sized : (b : ℕ) → b < barrier_count → any_of (names b) rs ≡ true → (1 ≤ get_or (plan_of file).sizes b 0) × (get_or (plan_of file).sizes b 0 ≤ size_limit)
  sized b h e =
      let s = a.records.read.sized b in
      let some = eqb-false (size_in rs b) 0 (not-true _ (sym s.found ∙ e)) in
      let most = s.most in
      let same = size_of rs a.records b (omega arith) in
      omega arith

  -- The fetched record is in range.
  pub in-range : (w place : ℕ) → InRange (workers_of (plan_of file)) (plan_of file).sizes (fetched_as file (first_in rs w) (first_in rs (suc w)) place)
  in-range w place =
      elim (dec_lt (first_in rs w + place) (first_in rs (suc w))) [
        | yes h ↦
            let i = first_in rs w + place in
            let r = get_or rs i blank in
            let s = a.records.read.placed w place (omega (arith, a.records.read.together w)) in
            let step = and_left (is_step r) (eqb r.worker w) s.of_worker in
            let f = a.records.read.fit i (omega (arith, first-inside rs (suc w))) step in
            subst⁻¹ (λ (b : Record). InRange (workers_of (plan_of file)) (plan_of file).sizes b) (fetched-record w place h)
            (ranged (workers_of (plan_of file)) (plan_of file).sizes r step (ap (λ (n : ℕ). wrong_operand n r) (workers-of rs a.records) ∙ f.inside)
            (λ e m. sized r.number m (not-false _ (sym (ap (λ (b : Bool). b && not (any_of (names r.number) rs)) (eq-eqb r.op op_barrier e)) ∙ f.sized))))
        | no h ↦
            subst⁻¹ (λ (b : Record). InRange (workers_of (plan_of file)) (plan_of file).sizes b) (fetched-end file (first_in rs w) (first_in rs (suc w)) place (omega arith))
            (ranged-end (workers_of (plan_of file)) (plan_of file).sizes)
      ]
