-- The verdicts are those of the first test that is due: of the check, and of a run.
use Prim.Native.Nat.{ℕ, suc, ◌+◌, ◌%◌}
use mathlib.Core.Bool.{Bool, true, false, not, ◌&&◌, ◌||◌, false≢true}
use mathlib.Core.Path.{◌≡◌, sym, ap, ◌∙◌, subst, subst⁻¹}
use mathlib.Core.Logic.{inl, inr, ⊎_elim}
use mathlib.Core.List.{List, [], ◌∷◌, ◌++◌, append_assoc, append-nil}
use native.Mathlib.Omega.{arith}
use lib.Dec.{leb, ltb, eqb}
use lib.ListN.{length, get_or, drop, length-append}
use lib.Seq.{get_or-append_seam, drop-append-add}
use borrow.Author.Tests.{ltb-true, ltb-false, leb-true, leb-false, eqb-true, eqb-false, not-true, not-false, eq-eqb}
use Rattle.protocol.specs.Format.{Record, record_length, file_limit, records, plan_of, is_skip, steps_in}
use Rattle.protocol.specs.Refusals.{bad_length, skip_too_far, bad_buffer, too_many_turns, bad_turn, Verdict, accepted, holds, length_rule, skip_rule, check_skips, check_records, check, wrong_length}
use Rattle.protocol.specs.Turns.{workers_of}
use Rattle.protocol.specs.Calls.{Buffers, memory_length, log_length, report_length, work_length, turns_limit, misfit, names_nobody, both, run_verdict}
use Rattle.protocol.specs.WellFormed.{blank, Fitting}
use Rattle.protocol.specs.Conditions.{LengthAmiss, SkipBeyond, Test, test, record_tests, skip_tests, over, file_tests, run_tests, FirstDue}
use Rattle.protocol.proofs.Bools.{or_left, or_right, and_left, and_right}
use Rattle.protocol.proofs.Records.{one}
use Rattle.protocol.proofs.Taken.{none_of}
use Rattle.protocol.proofs.Accepted.{length-right, length-records}
use Rattle.protocol.proofs.Covered.{nothing-due, Covers, covers-none, covers, any-there, any_none, or_cases, record-covers}

-- ---- all records, then all skips

skip-covers : (before behind : List Record) (r : Record)
    → Covers (skip_tests (before ++ (r ∷ behind)) (length before)) (skip_rule r behind) (length before)
unfolding skip_rule
skip-covers before behind r =
    subst⁻¹ (λ (p : Record). Covers (test skip_too_far (length before) (SkipBeyond whole (length before) p) ∷ []) (skip_rule r behind) (length before))
    (get_or-append_seam before r behind blank)
    (covers (is_skip r.op && ltb (length (steps_in behind r.worker)) r.number) skip_too_far holds
    (λ e. (and_left (is_skip r.op) _ e, omega (arith, ltb-true (length (steps_in behind r.worker)) r.number (and_right (is_skip r.op) _ e), same)))
    (λ e d.
    omega (
      arith,
      ltb-false (length (steps_in behind r.worker)) r.number (sym (ap (λ (b : Bool). b && ltb (length (steps_in behind r.worker)) r.number) d.0) ∙ e),
      same,
      d.1,
    ))
    (λ e. covers-none (length before)))
  where
    whole : List Record
    whole = before ++ (r ∷ behind)

    same : length (steps_in behind r.worker) ≡ length (steps_in (drop (suc (length before)) (before ++ (r ∷ behind))) r.worker)
    same =
        ap (λ (rs : List Record). length (steps_in rs r.worker))
        (sym (ap (λ (k : ℕ). drop k (before ++ (r ∷ behind))) (let e : suc (length before) ≡ length before + 1 = omega arith in e) ∙ drop-append-add before (r ∷ behind) 1))

-- one record more has been read
next-index : (before : List Record) (r : Record) → length (before ++ one r) ≡ suc (length before)
next-index before r = let e = length-append before (one r) in omega arith

skips-first : (before rest : List Record) → FirstDue (over (skip_tests (before ++ rest)) (length rest) (length before)) (check_skips (length before) rest)
unfolding check_skips over
skips-first before [] = nothing-due
skips-first before (r ∷ rest) =
    (skip-covers before rest r).decides _ _
    (subst (λ (rs : List Record). FirstDue (over (skip_tests rs) (length rest) (suc (length before))) (check_skips (suc (length before)) rest))
    (append_assoc before (one r) rest)
    (subst (λ (i : ℕ). FirstDue (over (skip_tests (before ++ one r ++ rest)) (length rest) i) (check_skips i rest)) (next-index before r)
    (skips-first (before ++ one r) rest)))

abbrev all_tests : List Record → ℕ → ℕ → List Test
all_tests rs k i = over (record_tests rs) k i ++ over (skip_tests rs) (length rs) 0

records-first : (before rest : List Record) → FirstDue (all_tests (before ++ rest) (length rest) (length before)) (check_records before rest)
unfolding check_records over
records-first before [] =
    subst⁻¹ (λ (rs : List Record). FirstDue (over (skip_tests rs) (length rs) 0) (check_skips 0 before)) (append-nil before) (skips-first [] before)
records-first before (r ∷ rest) =
    (record-covers before rest r).decides _ _
    (subst (λ (rs : List Record). FirstDue (all_tests rs (length rest) (suc (length before))) (check_records (before ++ one r) rest))
    (append_assoc before (one r) rest)
    (subst (λ (i : ℕ). FirstDue (all_tests (before ++ one r ++ rest) (length rest) i) (check_records (before ++ one r) rest)) (next-index before r)
    (records-first (before ++ one r) rest)))

-- ---- a file

length-covers : (file : List ℕ) → Covers (test bad_length 0 (LengthAmiss file) ∷ []) (length_rule (length file)) 0
unfolding length_rule
length-covers file =
    covers (wrong_length (length file)) bad_length holds
    (λ e.
    ⊎_elim
    (λ l. ⊎_elim (λ z. inl (eqb-true (length file) 0 z)) (λ m. inr (inl (eqb-false (length file % record_length) 0 (not-true _ m)))) (or_cases (eqb (length file) 0) _ l))
    (λ l. inr (inr (ltb-true file_limit (length file) l)))
    (or_cases (eqb (length file) 0 || not (eqb (length file % record_length) 0)) _ e))
    (λ e d. let l = length-right file e in
    let some = l.some in
    let most = l.most in
    let bytes = l.bytes in
    ⊎_elim (λ z. omega arith) (⊎_elim (λ m. m (omega arith)) (λ m. omega arith)) d)
    (λ e. covers-none 0)

-- The verdict on a file is that of its first test that is due.
pub check-first : (file : List ℕ) → FirstDue (file_tests file) (check file)
unfolding check
check-first file =
    (length-covers file).decides _ _
    (subst (λ (k : ℕ). FirstDue (over (record_tests (records file)) k 0 ++ over (skip_tests (records file)) k 0) (check_records [] (records file)))
    (length-records file)
    (records-first [] (records file)))

-- ---- a run

both_first : (ts us : List Test) (v next : Verdict) → FirstDue ts v → FirstDue us next → FirstDue (ts ++ us) (both v next)
unfolding FirstDue
both_first [] us v next e h = subst⁻¹ (λ (u : Verdict). FirstDue us (both u next)) e h
both_first (t ∷ ts) us v next e h =
    ⊎_elim (λ d. inl (d.0, ap (λ (u : Verdict). both u next) d.1)) (λ d. inr (d.0, both_first ts us v next d.1 h)) e

pub same_length : (k n : ℕ) → not (eqb k n) ≡ false → k ≡ n
same_length k n e = eqb-true k n (not-false (eqb k n) e)

-- the lengths of the four buffers
abbrev pub AsLent : ℕ → ℕ → ℕ → ℕ → Type 0
AsLent memory log report work = (memory ≡ memory_length) × (log ≡ log_length) × (report ≡ report_length) × (work ≡ work_length)

pub as_lent : (memory log report work : ℕ)
    → not (eqb memory memory_length) || not (eqb log log_length) || not (eqb report report_length) || not (eqb work work_length) ≡ false
    → AsLent memory log report work
as_lent memory log report work e =
    let t = none_of (not (eqb memory memory_length) || not (eqb log log_length)) (not (eqb report report_length)) (not (eqb work work_length)) e in
    (same_length _ _ (or_left _ _ t.0), same_length _ _ (or_right (not (eqb memory memory_length)) t.0), same_length _ _ t.1, same_length _ _ t.2)

pub fitting : (b : Buffers) → misfit b ≡ false → Fitting b
fitting b e =
    let t = as_lent (length b.memory) (length b.log) (length b.report) (length b.work) e in
    record { memory = t.0; log = t.1; report = t.2; work = t.3 }

pub fits_not : (b : Buffers) → Fitting b → misfit b ≡ false
fits_not b f = simp (eq-eqb _ _ f.memory, eq-eqb _ _ f.log, eq-eqb _ _ f.report, eq-eqb _ _ f.work)

pub misfitting : (b : Buffers) → misfit b ≡ true → Fitting b → ⊥
misfitting b e f = false≢true (sym (fits_not b f) ∙ e)

-- The verdict on a run is that of its first test that is due.
pub run-first : (file turns : List ℕ) (b : Buffers) → FirstDue (run_tests file turns b) (run_verdict file turns b)
unfolding run_verdict
run-first file turns b =
    (covers (misfit b) bad_buffer holds (misfitting b) (λ e amiss. amiss (fitting b e)) (λ e. covers-none 0)).decides _ _
    ((covers (ltb turns_limit (length turns)) too_many_turns holds (ltb-true _ _) (λ e d. let h = ltb-false turns_limit (length turns) e in omega arith) (λ e. covers-none 0)).decides _ _
    (both_first (file_tests file) _ (check file) _ (check-first file)
    ((covers (names_nobody n turns) bad_turn holds
    (λ e. let h = any-there (λ w. leb n w) turns 0 e in (h.0, h.1, leb-true n _ h.2))
    (λ e d. omega (arith, leb-false n (get_or turns d.0 0) (any_none (λ w. leb n w) turns 0 e d.0 d.1), d.2))
    (λ e. covers-none 0)).decides [] accepted nothing-due)))
  where
    n : ℕ
    n = workers_of (plan_of file)
