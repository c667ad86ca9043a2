-- Plan after plan: what stands before plan k, that one plan more keeps it, and what all of them leave.
use Prim.Native.Nat.{ℕ, suc, ◌+◌, ◌-◌, ◌*◌, ◌<◌, ◌≤◌}
use native.Mathlib.Numerals.{add-one}
use native.Mathlib.Omega.{arith}
use mathlib.Core.Bool.{Bool, true, false, ◌||◌}
use mathlib.Core.Path.{◌≡◌, refl, sym, ap, ◌∙◌, subst, subst⁻¹}
use mathlib.Core.List.{List, ◌++◌}
use borrow.Author.Tests.{eqb-true, eqb-false, ne_eqb}
use Rattle.std.specs.Prelude.{Result, Ok, Err, is_ok}
use Rattle.protocol.specs.Refusals.{number_of}
use Rattle.protocol.proofs.Numbered.{numbered}
use Rattle.plan.specs.Answer.{refusal_of}
use Rattle.plan.specs.declared.answer.Refused.{Refused}
use lib.Dec.{eqb}
use lib.ListN.{length, set, take, drop, replicate, length-set}
use Rattle.protocol.specs.Format.{long_at}
use Rattle.protocol.specs.Calls.{Buffers, memory_length, log_length, report_length, work_length}
use Rattle.protocol.specs.Batch.{Batch, length_bytes, length_at, begins_at, file_at, part_at, part_as, parts_of, answer_of, separate, run_plans}
use Rattle.protocol.specs.WellFormed.{Fitting, EvenlyLent}
use Rattle.protocol.proofs.Bools.{split, or-fails, or_left, or_right}
use Rattle.protocol.proofs.Counting.{clash}
use Rattle.protocol.proofs.BatchParts.{parts-length}
use Rattle.protocol.proofs.Batches.{Sized, parts-fit, Separately, separately, Alike, alike, plans-sized}
use Rattle.tampermauve.specs.Run.{lent}
use Rattle.tampermauve.specs.All.{batch, Stretched, answer_for, RanAlone, RanPlans}
use Rattle.admission.proofs.Beginning.{begins-next, begins-within}

-- a plan's byte is 0 where it was accepted
pub zero-if-ok : (r : Result Unit Refused) → eqb (answer_for r) 0 ≡ is_ok r
zero-if-ok (Ok x) = refl
zero-if-ok (Err e) = ne_eqb (number_of (refusal_of e.refusal)) 0 (λ z. omega (arith, z, (numbered (refusal_of e.refusal)).0))

-- what stands before plan k, whose file begins at `at`
pub record EachSoFar (files lengths : List ℕ) (count : ℕ) (b : Batch) (turns : List ℕ) (k at : ℕ) (accepted : Bool) (d : Batch) : Type 0 where
  pub within : k ≤ count
  pub begins : at ≡ begins_at lengths k
  pub small : at ≤ 4294967295 * k
  pub stretched : Stretched turns
  pub sized : Sized count d
  pub ran : RanPlans files lengths k b accepted d

pub all-sized : {count : ℕ} {files lengths : List ℕ} {b : Batch} → EvenlyLent count files lengths b → length b.work ≡ work_length → Sized count b
all-sized even work =
    record { memories = even.memories_fit; logs = even.logs_fit; reports = even.reports_fit; answers = even.answers_fit; work = work }

pub none_yet : {count : ℕ} {files lengths : List ℕ} {b : Batch} {turns : List ℕ} → EvenlyLent count files lengths b → length b.work ≡ work_length → Stretched turns
    → EachSoFar files lengths count b turns 0 0 false b
unfolding run_plans begins_at
none_yet even work stretched =
    record {
      within = omega arith;
      begins = refl;
      small = omega arith;
      stretched = stretched;
      sized = all-sized even work;
      ran = record { memories = refl; logs = refl; reports = refl; answers = refl; cleared = λ e. clash e; lent = λ e. (refl, refl) };
    }

-- the parts that are lent, as the code cuts them
part_cut : (unit k : ℕ) (bytes : List ℕ) → take (unit * k + unit - unit * k) (drop (unit * k) bytes) ≡ part_at unit k bytes
unfolding part_at
part_cut unit k bytes =
    ap (λ (n : ℕ). take n (drop (unit * k) bytes)) (let e : unit * k + unit - unit * k ≡ unit = omega arith in e)

part-put : (unit k : ℕ) (part bytes : List ℕ)
    → take (unit * k) bytes ++ (part ++ drop (unit * k + unit - unit * k) (drop (unit * k) bytes)) ≡ part_as unit k part bytes
unfolding part_as
part-put unit k part bytes =
    ap (λ (n : ℕ). take (unit * k) bytes ++ (part ++ drop n (drop (unit * k) bytes))) (let e : unit * k + unit - unit * k ≡ unit = omega arith in e)

file-cut : (files lengths : List ℕ) (k at length : ℕ) → at ≡ begins_at lengths k → length ≡ long_at lengths (length_bytes * k)
    → take (at + length - at) (drop at files) ≡ file_at files lengths k
unfolding file_at length_at
file-cut files lengths k at length begins long =
    ap (λ (n : ℕ). take n (drop at files)) (let e : at + length - at ≡ long_at lengths (length_bytes * k) = omega (arith, long) in e)
    ∙ ap (λ (n : ℕ). take (long_at lengths (length_bytes * k)) (drop n files)) begins

-- what is lent to plan k, as the code cuts it
abbrev cut : ℕ → ℕ → List ℕ → List ℕ
cut unit k bytes = take (unit * k + unit - unit * k) (drop (unit * k) bytes)

abbrev pub cut_parts : ℕ → Batch → Buffers
cut_parts k d = lent (cut memory_length k d.memories) (cut log_length k d.logs) (cut report_length k d.reports) d.work

cut-same : (k : ℕ) (d : Batch) → cut_parts k d ≡ parts_of k d
cut-same k d =
    ap (λ (x : List ℕ). lent x (cut log_length k d.logs) (cut report_length k d.reports) d.work) (part_cut memory_length k d.memories)
    ∙ (ap (λ (x : List ℕ). lent (part_at memory_length k d.memories) x (cut report_length k d.reports) d.work) (part_cut log_length k d.logs)
    ∙ ap (λ (x : List ℕ). lent (part_at memory_length k d.memories) (part_at log_length k d.logs) x d.work) (part_cut report_length k d.reports))

pub cut_fits : {count : ℕ} {d : Batch} → Sized count d → (k : ℕ) → k < count → Fitting (cut_parts k d)
cut_fits {d = d} sized k l = subst⁻¹ Fitting (cut-same k d) (parts-fit sized k l)

-- what is left, as the code puts it back
abbrev put : ℕ → ℕ → List ℕ → List ℕ → List ℕ
put unit k part bytes = take (unit * k) bytes ++ (part ++ drop (unit * k + unit - unit * k) (drop (unit * k) bytes))

abbrev pub put_parts : ℕ → Batch → (answer : ℕ) (memory log report work : List ℕ) → Batch
put_parts k d answer memory log report work =
    batch (put memory_length k memory d.memories) (put log_length k log d.logs) (put report_length k report d.reports) (set d.answers k answer) work

module _ {files lengths : List ℕ} {count : ℕ} {b : Batch} (all : Sized count b) {turns : List ℕ} {k at : ℕ} {accepted : Bool} {d : Batch}
    (so : EachSoFar files lengths count b turns k at accepted d) (l : k < count) where
  abbrev file : List ℕ
  file = file_at files lengths k

  fits : Fitting (parts_of k (run_plans files lengths k b))
  fits = parts-fit (plans-sized files lengths count b all k so.within) k l

  same : Alike (separate file (parts_of k d)) (separate file (parts_of k (run_plans files lengths k b)))
  same =
      alike file (parts_of k d) (parts_of k (run_plans files lengths k b)) (parts-fit so.sized k l) fits
      (ap (λ (x : List ℕ). part_at memory_length k x) so.ran.memories)
      (ap (λ (x : List ℕ). part_at log_length k x) so.ran.logs)
      (ap (λ (x : List ℕ). part_at report_length k x) so.ran.reports)

  alone : Separately file (parts_of k (run_plans files lengths k b)) (separate file (parts_of k (run_plans files lengths k b)))
  alone = separately file (parts_of k (run_plans files lengths k b)) fits

  module _ {answer : ℕ} {memory log report work : List ℕ} (r : RanAlone file (parts_of k d) answer memory log report work) where
    abbrev after : Batch
    after =
        record {
          memories = part_as memory_length k memory d.memories;
          logs = part_as log_length k log d.logs;
          reports = part_as report_length k report d.reports;
          answers = set d.answers k answer;
          work = work;
        }

    answered : answer ≡ answer_of (separate file (parts_of k (run_plans files lengths k b))).returned
    answered = r.answered ∙ ap answer_of same.returned

    both : (unit : ℕ) {part part' bytes bytes' : List ℕ} → part ≡ part' → bytes ≡ bytes' → part_as unit k part bytes ≡ part_as unit k part' bytes'
    both unit {part} {part'} {bytes} {bytes'} e f = ap (λ (x : List ℕ). part_as unit k x bytes) e ∙ ap (λ (x : List ℕ). part_as unit k part' x) f

    one_more : RanPlans files lengths (suc k) b (accepted || eqb answer 0) after
    unfolding run_plans
    one_more =
        record {
          memories = both memory_length (r.same_memory ∙ same.memory) so.ran.memories;
          logs = both log_length (r.same_log ∙ same.log) so.ran.logs;
          reports = both report_length (r.same_report ∙ same.report) so.ran.reports;
          answers =
              ap (λ (x : ℕ). set d.answers k x) answered
              ∙ ap (λ (x : List ℕ). set x k (answer_of (separate file (parts_of k (run_plans files lengths k b))).returned)) so.ran.answers;
          cleared = λ e. split (eqb answer 0) (λ z. accepted-now (eqb-true answer 0 z)) (λ z. accepted-before z e);
          lent = λ e. none-yet-accepted (or_left accepted _ e) (eqb-false answer 0 (or_right accepted e));
        }
      where
        accepted-now : answer ≡ 0 → (separate file (parts_of k (run_plans files lengths k b))).buffers.work ≡ replicate work_length 0
        accepted-now z = ap (λ (x : Buffers). x.work) (alone.ended (sym answered ∙ z))

        accepted-before : eqb answer 0 ≡ false → accepted || eqb answer 0 ≡ true → (separate file (parts_of k (run_plans files lengths k b))).buffers.work ≡ replicate work_length 0
        accepted-before z e =
            alone.cleared (so.ran.cleared (sym (or-fails accepted z) ∙ e))

        none-yet-accepted : accepted ≡ false → (answer ≡ 0 → ⊥)
            → ((separate file (parts_of k (run_plans files lengths k b))).buffers.work ≡ b.work) × (work ≡ b.work)
        none-yet-accepted e n = (
          ap (λ (x : Buffers). x.work) (alone.kept (λ z. n (answered ∙ z))) ∙ (so.ran.lent e).0,
          r.untouched n ∙ (so.ran.lent e).1,
        )

    mine : Separately file (parts_of k d) (separate file (parts_of k d))
    mine = separately file (parts_of k d) (parts-fit so.sized k l)

    -- every part has its place
    sized-after : length work ≡ work_length → Sized count after
    sized-after size =
        let s = so.sized in
        record {
          memories = parts-length memory_length k memory d.memories (ap length r.same_memory ∙ mine.fits.memory) (omega (arith, s.memories)) ∙ s.memories;
          logs = parts-length log_length k log d.logs (ap length r.same_log ∙ mine.fits.log) (omega (arith, s.logs)) ∙ s.logs;
          reports = parts-length report_length k report d.reports (ap length r.same_report ∙ mine.fits.report) (omega (arith, s.reports)) ∙ s.reports;
          answers = length-set d.answers k answer ∙ s.answers;
          work = size;
        }

    -- and the next file begins where this one ends
    next-plan : {next length' : ℕ} → next ≡ at + length' → length' ≡ long_at lengths (length_bytes * k) → length' ≤ 4294967295 → length work ≡ work_length
        → EachSoFar files lengths count b turns (k + 1) next (accepted || eqb answer 0) after
    next-plan {next} {length'} e long most size =
        record {
          within = omega arith;
          begins = e ∙ (ap (λ (n : ℕ). n + length') so.begins ∙ sym (begins-next lengths k length' long));
          small = omega (arith, so.small, e, most);
          stretched = so.stretched;
          sized = sized-after size;
          ran = subst⁻¹ (λ (n : ℕ). RanPlans files lengths n b (accepted || eqb answer 0) after) (add-one k) one_more;
        }

  -- the same of the parts as the code cuts them and puts them back
  pub goes_on : {answer next length' : ℕ} {memory log report work : List ℕ}
      → RanAlone (take (next - at) (drop at files)) (cut_parts k d) answer memory log report work
      → next ≡ at + length' → length' ≡ long_at lengths (length_bytes * k) → length' ≤ 4294967295 → length work ≡ work_length
      → EachSoFar files lengths count b turns (k + 1) next (accepted || eqb answer 0) (put_parts k d answer memory log report work)
  goes_on {answer} {next} {length'} {memory} {log} {report} {work} r e long most size =
      subst⁻¹ (λ (x : Batch). EachSoFar files lengths count b turns (k + 1) next (accepted || eqb answer 0) x) puts (next-plan alone' e long most size)
    where
      alone' : RanAlone (file_at files lengths k) (parts_of k d) answer memory log report work
      alone' =
          subst (λ (x : Buffers). RanAlone (file_at files lengths k) x answer memory log report work) (cut-same k d)
          (subst (λ (x : List ℕ). RanAlone x (cut_parts k d) answer memory log report work)
          (ap (λ (n : ℕ). take (n - at) (drop at files)) e ∙ file-cut files lengths k at length' so.begins long) r)

      puts : put_parts k d answer memory log report work
          ≡ batch (part_as memory_length k memory d.memories) (part_as log_length k log d.logs) (part_as report_length k report d.reports) (set d.answers k answer) work
      puts =
          ap (λ (x : List ℕ). batch x (put log_length k log d.logs) (put report_length k report d.reports) (set d.answers k answer) work) (part-put memory_length k memory d.memories)
          ∙ (ap (λ (x : List ℕ). batch (part_as memory_length k memory d.memories) x (put report_length k report d.reports) (set d.answers k answer) work) (part-put log_length k log d.logs)
          ∙ ap (λ (x : List ℕ). batch (part_as memory_length k memory d.memories) (part_as log_length k log d.logs) x (set d.answers k answer) work) (part-put report_length k report d.reports))

  -- the file lies within the files
  pub file-within : EvenlyLent count files lengths b → (length' : ℕ) → length' ≡ long_at lengths (length_bytes * k) → at + length' ≤ length files
  file-within even length' long =
      omega (arith, so.begins, begins-next lengths k length' long, begins-within lengths (k + 1) count (omega arith), even.sum)

pub all-ran : {files lengths : List ℕ} {count : ℕ} {b : Batch} {turns : List ℕ} {k at : ℕ} {accepted : Bool} {d : Batch}
    → EachSoFar files lengths count b turns k at accepted d → count ≤ k → RanPlans files lengths count b accepted d
all-ran {files} {lengths} {count} {b} {turns} {k} {at} {accepted} {d} so h =
    let e : k ≡ count = omega (arith, so.within) in
    subst (λ (n : ℕ). RanPlans files lengths n b accepted d) e so.ran
