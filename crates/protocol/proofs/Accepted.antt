-- What an accepted file is: its records are read as `Prefix` says, its skips stay inside, and the plan that it holds is sound.
use Prim.Native.Nat.{ℕ, zero, suc, ◌+◌, ◌*◌, ◌%◌, ◌<◌, ◌≤◌}
use mathlib.Core.Bool.{Bool, true, false, cond, not, ◌&&◌, false≢true}
use mathlib.Core.Path.{◌≡◌, refl, sym, ap, ◌∙◌, subst, subst⁻¹}
use mathlib.Core.List.{List, [], ◌∷◌, ◌++◌, append_assoc, append-nil}
use mathlib.Core.Option.{none, some}
use native.Mathlib.Omega.{arith}
use native.Mathlib.Decide.{dec_lt}
use lib.Dec.{ltb, eqb}
use lib.ListN.{length, get_or, drop, length-append, length-map, get_or-eq_default}
use borrow.Author.Tests.{ltb-false, eqb-true, eqb-false, not-false}
use Rattle.protocol.specs.Format.{Record, record_length, file_limit, records_limit, plan_mark, known, row_in, record_count, records, is_step, is_skip}
use Rattle.protocol.specs.Format.{workers_in, steps_in, Step, sync, exit, workers_limit}
use Rattle.protocol.specs.Format.{own, skip_zero, skip_nonzero, first_in, size_in, barrier_count, up_to, plan_in, plan_of}
use Rattle.protocol.specs.Refusals.{Refusal, Rule, Verdict, accepted, refused, ruled, holds, bad_mark, bad_plan, bad_length, wrong_length, wrong_plan, length_rule, plan_rule, later_rule}
use Rattle.protocol.specs.Refusals.{record_rule, skip_too_far, skip_rule, check_skips, check_records, check}
use Rattle.protocol.specs.Steps.{steps_of, step_at}
use Rattle.protocol.specs.Turns.{workers_of}
use Rattle.protocol.specs.WellFormed.{blank}
use Rattle.protocol.proofs.Bools.{and_left, and_right}
use Rattle.protocol.proofs.Lists.{length-count_from, length-records_from, mapped}
use Rattle.protocol.proofs.Records.{one, first-unopened, first-inside}
use Rattle.protocol.proofs.Taken.{rule-parts, none_of, plan-record}
use Rattle.protocol.proofs.Tabled.{step_op, skip_length, step_op-step_of, step_skip}
use Rattle.protocol.proofs.Sound.{Sound}
use Rattle.protocol.proofs.Prefix.{Read, read_first, read_more}

-- a verdict that accepts: the rule holds, and so does what comes after it
pub accepts : (rule : Rule) (i : ℕ) (next : Verdict) → ruled rule i next ≡ accepted → (rule ≡ holds) × (next ≡ accepted)
accepts none i next e = (refl, e)
accepts (some f) i next e = let z : ◌≡◌ {A = ℕ} 0 1 = cc in absurd (omega arith)

pub record WholeRead (rs : List Record) : Type 0 where
  pub read : Read rs
  pub skips : check_skips 0 rs ≡ accepted

all_read : (q : Record) (qs rest : List Record) → Read (q ∷ qs) → check_records (q ∷ qs) rest ≡ accepted → WholeRead ((q ∷ qs) ++ rest)
unfolding check_records record_rule
all_read q qs [] read e =
    subst⁻¹ WholeRead (append-nil (q ∷ qs)) (record { read = read; skips = e })
all_read q qs (r ∷ rest) read e =
    let t = accepts (record_rule (q ∷ qs) r) (length (q ∷ qs)) (check_records ((q ∷ qs) ++ one r) rest) e in
    let later = (rule-parts (not (eqb r.mark plan_mark)) bad_mark (later_rule (q ∷ qs) r) t.0).1 in
    subst WholeRead (append_assoc (q ∷ qs) (one r) rest)
    (all_read q (qs ++ one r) rest (read_more q qs r read later) t.1)

-- the rule of each skip holds, with the records behind it
skips-hold : (rs : List Record) (i k : ℕ) → check_skips i rs ≡ accepted → k < length rs → skip_rule (get_or rs k blank) (drop (suc k) rs) ≡ holds
unfolding check_skips
skips-hold [] i k e h = absurd (omega arith)
skips-hold (r ∷ rs) i zero e h = (accepts (skip_rule r rs) i (check_skips (suc i) rs) e).0
skips-hold (r ∷ rs) i (suc k) e h = skips-hold rs (suc i) k (accepts (skip_rule r rs) i (check_skips (suc i) rs) e).1 (omega arith)

-- An accepted file's records.
pub record Accepted (rs : List Record) : Type 0 where
  pub least : 1 ≤ workers_in rs
  pub most : workers_in rs ≤ workers_limit
  pub read : Read rs
  pub skips : (k : ℕ) → k < length rs → skip_rule (get_or rs k blank) (drop (suc k) rs) ≡ holds

pub accepted-records : (rs : List Record) → (length rs ≡ 0 → ⊥) → check_records [] rs ≡ accepted → Accepted rs
unfolding check_records record_rule plan_rule known row_in
accepted-records [] n e = absurd (n refl)
accepted-records (r ∷ rest) n e =
    let t = accepts (record_rule [] r) 0 (check_records (one r) rest) e in
    let p = plan-record r (rule-parts (wrong_plan r) bad_plan holds (rule-parts (not (eqb r.mark plan_mark)) bad_mark (plan_rule r) t.0).1).0 in
    let w = all_read r [] rest (read_first r (ap (λ (o : ℕ). eqb o 1) p.op) (ap known p.op)) t.1 in
    record {
      least = p.least;
      most = p.most;
      read = w.read;
      skips = λ k h. skips-hold (r ∷ rest) 0 k w.skips h;
    }

pub record Length (file : List ℕ) : Type 0 where
  pub some : 1 ≤ record_count file
  pub most : record_count file ≤ records_limit
  pub bytes : length file ≡ record_length * record_count file

pub length-right : (file : List ℕ) → wrong_length (length file) ≡ false → Length file
unfolding record_count
length-right file e =
    let bytes = length file in
    let t = none_of (eqb bytes 0) (not (eqb (bytes % record_length) 0)) (ltb file_limit bytes) e in
    let z = eqb-false bytes 0 t.0 in
    let m = eqb-true (bytes % record_length) 0 (not-false _ t.1) in
    let l = ltb-false file_limit bytes t.2 in
    record { some = omega arith; most = omega arith; bytes = omega arith }

-- the rule of the length
pub length-ruled : (file : List ℕ) → length_rule (length file) ≡ holds → Length file
unfolding length_rule
length-ruled file e = length-right file (rule-parts (wrong_length (length file)) bad_length holds e).0

pub length-records : (file : List ℕ) → length (records file) ≡ record_count file
unfolding records
length-records file = length-records_from file (record_count file) 0

-- An accepted file.
pub record AcceptedFile (file : List ℕ) : Type 0 where
  pub size : Length file
  pub records : Accepted (records file)

pub accepted-file : (file : List ℕ) → check file ≡ accepted → AcceptedFile file
unfolding check
accepted-file file e =
    let t = accepts (length_rule (length file)) 0 (check_records [] (records file)) e in
    let l = length-ruled file t.0 in
    record {
      size = l;
      records = accepted-records (records file) (λ z. let n = length-records file in let s = l.some in omega arith) t.1;
    }

-- The plan that they hold.
module _ (rs : List Record) (a : Accepted rs) where
  pub workers-of : workers_of (plan_in rs) ≡ workers_in rs
  unfolding plan_in
  workers-of = length-map (up_to (workers_in rs)) (λ w. steps_in rs w) ∙ length-count_from (workers_in rs) 0

  no_more : (w : ℕ) → workers_in rs ≤ w → steps_in rs w ≡ []
  no_more w h =
      let o = a.read.opened in
      let f₁ = first-unopened rs w (omega arith) in
      let f₂ = first-unopened rs (suc w) (omega arith) in
      empty (steps_in rs w) (let t = a.read.together w in omega arith)
    where
      empty : (ss : List Step) → length ss ≡ 0 → ss ≡ []
      empty [] e = refl
      empty (x ∷ ss) e = absurd (omega arith)

  pub steps-of : (w : ℕ) → steps_of (plan_in rs) w ≡ steps_in rs w
  unfolding plan_in
  steps-of w = elim (dec_lt w (workers_in rs)) [
    | yes h ↦ mapped (λ v. steps_in rs v) (workers_in rs) w [] h
    | no h ↦ get_or-eq_default (plan_in rs).steps [] (let e = workers-of in omega arith) ∙ sym (no_more w (omega arith))
  ]

  pub size_of : (b : ℕ) → b < barrier_count → get_or (plan_in rs).sizes b 0 ≡ size_in rs b
  unfolding plan_in
  size_of b h = mapped (λ c. size_in rs c) barrier_count b 0 h

  -- a skip leaves its worker's steps just behind the last at the most
  skip-inside : (w k : ℕ) → k < length (steps_in rs w) → is_skip (step_op (get_or (steps_in rs w) k (sync exit))) ≡ true
      → k + 1 + skip_length (get_or (steps_in rs w) k (sync exit)) ≤ length (steps_in rs w)
  unfolding skip_rule
  skip-inside w k h e =
      let s = a.read.placed w k h in
      let r = get_or rs (first_in rs w + k) blank in
      let left = length (steps_in (drop (suc (first_in rs w + k)) rs) r.worker) in
      let step = and_left (is_step r) (eqb r.worker w) s.of_worker in
      let own = eqb-true r.worker w (and_right (is_step r) (eqb r.worker w) s.of_worker) in
      let op = ap step_op s.step ∙ step_op-step_of r step in
      let skips : is_skip r.op ≡ true = subst (λ (o : ℕ). is_skip o ≡ true) op e in
      let far : skip_length (get_or (steps_in rs w) k (sync exit)) ≡ r.number
      = ap skip_length s.step ∙ (step_skip r step ∙ ap (λ (b : Bool). cond b r.number 0) skips) in
      let at : first_in rs w + k < length rs = let t = a.read.together w in let i = first-inside rs (suc w) in omega arith in
      let rule = (rule-parts (is_skip r.op && ltb left r.number) skip_too_far holds (a.skips (first_in rs w + k) at)).0 in
      let enough : r.number ≤ left
      = ltb-false left r.number (sym (ap (λ (b : Bool). b && ltb left r.number) skips) ∙ rule) in
      let same = ap (λ (v : ℕ). length (steps_in (drop (suc (first_in rs w + k)) rs) v)) own in
      let behind = s.behind in
      omega arith

  skip-sound : (w k : ℕ) (s : Step) → is_skip (step_op s) ≡ true → step_at (plan_in rs) w k ≡ s
      → k + 1 + skip_length s ≤ length (steps_of (plan_in rs) w)
  skip-sound w k s skips e =
      let same = steps-of w in
      let at : get_or (steps_in rs w) k (sync exit) ≡ s = ap (λ (ss : List Step). get_or ss k (sync exit)) (sym same) ∙ e in
      let h : k < length (steps_in rs w)
      = elim (dec_lt k (length (steps_in rs w))) [
        | yes l ↦ l
        | no l ↦
            let out = get_or-eq_default (steps_in rs w) (sync exit) {n = k} (omega arith) in
            absurd (false≢true (ap (λ (s : Step). is_skip (step_op s)) (sym out ∙ at) ∙ skips))
      ] in
      let inside = skip-inside w k h (ap (λ (s : Step). is_skip (step_op s)) at ∙ skips) in
      let far = ap skip_length at in
      let size = ap length same in
      omega arith

  pub sound : Sound (plan_in rs)
  sound =
      record {
        workers = let e = workers-of in let h = a.most in omega arith;
        lengths = λ w. let e = ap length (steps-of w) in let h = a.read.few w in omega arith;
        skips_zero = λ w k r j e. skip-sound w k (own (skip_zero r j)) refl e;
        skips_nonzero = λ w k r j e. skip-sound w k (own (skip_nonzero r j)) refl e;
      }

-- An accepted file holds a sound plan.
pub sound-file : (file : List ℕ) → check file ≡ accepted → Sound (plan_of file)
sound-file file e = sound (records file) (accepted-file file e).records

-- The record index of a refusal is that of a record.
skips-index : (rs : List Record) (i j : ℕ) (f : Refusal) → check_skips i rs ≡ refused f j → j < i + length rs
unfolding check_skips
skips-index [] i j f e = let z : ◌≡◌ {A = ℕ} 0 1 = cc in absurd (omega arith)
skips-index (r ∷ rs) i j f e = go (skip_rule r rs) (λ q. skips-index rs (suc i) j f q) e
  where
    go : (rule : Rule) → (check_skips (suc i) rs ≡ refused f j → j < suc i + length rs) → ruled rule i (check_skips (suc i) rs) ≡ refused f j → j < i + suc (length rs)
    go none later q = let l = later q in omega arith
    go (some g) later q = let s : i ≡ j = cc in omega arith

records-index : (before rs : List Record) (j : ℕ) (f : Refusal) → check_records before rs ≡ refused f j → j < length before + length rs
unfolding check_records
records-index before [] j f e = let l = skips-index before 0 j f e in omega arith
records-index before (r ∷ rs) j f e =
    go (record_rule before r) (λ q. let l = records-index (before ++ one r) rs j f q in let n = length-append before (one r) in omega arith) e
  where
    go : (rule : Rule) → (check_records (before ++ one r) rs ≡ refused f j → j < length before + suc (length rs))
        → ruled rule (length before) (check_records (before ++ one r) rs) ≡ refused f j → j < length before + suc (length rs)
    go none later q = later q
    go (some g) later q = let s : length before ≡ j = cc in omega arith

pub check-index : (file : List ℕ) (j : ℕ) (f : Refusal) → check file ≡ refused f j → j ≤ records_limit
unfolding check
check-index file j f e = go (length_rule (length file)) refl e
  where
    go : (rule : Rule) → length_rule (length file) ≡ rule → ruled rule 0 (check_records [] (records file)) ≡ refused f j → j ≤ records_limit
    go none p q =
        let l = records-index [] (records file) j f q in
        let n = length-records file in
        let m = (length-ruled file p).most in
        omega arith
    go (some g) p q = let s : ◌≡◌ {A = ℕ} 0 j = cc in omega arith
