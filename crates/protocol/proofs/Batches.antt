-- Many plans in one call: what the separate call of a plan leaves, that each accepted plan is run to its end, and that a refused one's
-- parts are untouched. Callers want `separate-accepted`, `separate-refused`, `alike` and `each_left`.
use Prim.Native.Nat.{ℕ, zero, suc, ◌+◌, ◌*◌, ◌<◌, ◌≤◌}
use native.Mathlib.Decide.{ℕ_discrete}
use native.Mathlib.Omega.{arith}
use mathlib.Core.Path.{◌≡◌, refl, sym, ap, ◌∙◌, subst, subst⁻¹}
use mathlib.Core.List.{List}
use lib.ListN.{length, get_or, set, replicate, length-set}
use lib.Seq.{get_or-set_same, get_or-set_other}
use Rattle.protocol.specs.Format.{plan_of}
use Rattle.protocol.specs.Refusals.{Refusal, number_of, Verdict, accepted, refused, code_of, check}
use Rattle.protocol.specs.Rounds.{State}
use Rattle.protocol.specs.RoundRun.{round_run}
use Rattle.protocol.specs.Calls.{Buffers, Reply, memory_length, log_length, report_length, work_length, buffers_of, played_from, reply_of, run}
use Rattle.protocol.specs.Listing.{turns_by}
use Rattle.protocol.specs.Batch.{Batch, file_at, part_at, parts_of, answer_of, left_by, separate, run_plans}
use Rattle.protocol.specs.WellFormed.{Fitting, EvenlyLent}
use Rattle.protocol.specs.Demands.{PlanLeft, EachLeft}
use Rattle.protocol.proofs.Accepted.{sound-file}
use Rattle.protocol.proofs.Numbered.{numbered}
use Rattle.protocol.proofs.FirstDue.{fits_not}
use Rattle.protocol.proofs.Cycles.{listed-verdict, listed-ends}
use Rattle.protocol.proofs.Sizes.{left-fits}
use Rattle.protocol.proofs.BatchParts.{unit-below, part_length, parts-length, part_same, part-other}

-- ---- one separate call

-- what the round-by-round run leaves
abbrev pub end_of_plan : List ℕ → List ℕ → Buffers
end_of_plan file memory = buffers_of (round_run (plan_of file) memory)

module _ (file : List ℕ) (b : Buffers) (fits : Fitting b) where
  by-verdict : (v : Verdict) → check file ≡ v → separate file b ≡ reply_of v (played_from (plan_of file) b.memory (turns_by (check file) file)) b
  unfolding run
  by-verdict v e =
      ap (λ (u : Verdict). reply_of u (played_from (plan_of file) b.memory (turns_by (check file) file)) b) (listed-verdict file b (fits_not b fits) ∙ e)

  pub separate-accepted : check file ≡ accepted → ◌≡◌ {A = Reply} (separate file b) (record { returned = 0; buffers = end_of_plan file b.memory })
  separate-accepted ok =
      by-verdict accepted ok
      ∙ ap (λ (s : State). record { returned = 0; buffers = buffers_of s }) (listed-ends file ok b.memory)

  pub separate-refused : (f : Refusal) (i : ℕ) → check file ≡ refused f i
      → ◌≡◌ {A = Reply} (separate file b) (record { returned = code_of (refused f i); buffers = b })
  separate-refused f i e = by-verdict (refused f i) e

  -- its buffers fit again
  ends-fit : check file ≡ accepted → Fitting (end_of_plan file b.memory)
  ends-fit ok =
      subst (λ (s : State). Fitting (buffers_of s)) (listed-ends file ok b.memory)
      (left-fits (plan_of file) (sound-file file ok) b.memory (turns_by (check file) file) fits.memory)

-- a refusal's number, without its index, is never 0
pub answer-number : (f : Refusal) (i : ℕ) → answer_of (code_of (refused f i)) ≡ number_of f
answer-number f i = let n = (numbered f).1 in omega arith

-- what is known of it, whatever its verdict
pub record Separately (file : List ℕ) (b : Buffers) (r : Reply) : Type 0 where
  pub fits : Fitting r.buffers
  pub cleared : b.work ≡ replicate work_length 0 → r.buffers.work ≡ replicate work_length 0
  pub ended : answer_of r.returned ≡ 0 → r.buffers ≡ end_of_plan file b.memory
  pub kept : (answer_of r.returned ≡ 0 → ⊥) → r.buffers ≡ b
  pub left : PlanLeft file b r.buffers (answer_of r.returned)

pub separately : (file : List ℕ) (b : Buffers) → Fitting b → Separately file b (separate file b)
separately file b fits = go (check file) refl
  where
    clashes : {A : Type 0} {f : Refusal} {i : ℕ} → check file ≡ accepted → check file ≡ refused f i → A
    clashes {A} {f} {i} e g = absurd (omega (arith, ap code_of (sym e ∙ g), (numbered f).0))

    numbered-by : Verdict → ℕ
    numbered-by accepted = 0
    numbered-by (refused f i) = number_of f

    go : (v : Verdict) → check file ≡ v → Separately file b (separate file b)
    go accepted e =
        subst⁻¹ (λ (r : Reply). Separately file b r) (separate-accepted file b fits e)
        (record {
          fits = ends-fit file b fits e;
          cleared = λ z. refl;
          ended = λ z. refl;
          kept = λ n. absurd (n refl);
          left = record { ended = λ f. (refl, refl); untouched = λ f i g. clashes e g };
        })
    go (refused f i) e =
        subst⁻¹ (λ (r : Reply). Separately file b r) (separate-refused file b fits f i e)
        (record {
          fits = fits;
          cleared = λ z. z;
          ended = λ z. absurd (omega (arith, (numbered f).0, answer-number f i, z));
          kept = λ n. refl;
          left = record {
            ended = λ g. clashes g e;
            untouched = λ g j h. (answer-number f i ∙ ap numbered-by (sym e ∙ h), refl, refl, refl);
          };
        })

-- what work holds at first does not matter
pub record Alike (r s : Reply) : Type 0 where
  pub returned : r.returned ≡ s.returned
  pub memory : r.buffers.memory ≡ s.buffers.memory
  pub log : r.buffers.log ≡ s.buffers.log
  pub report : r.buffers.report ≡ s.buffers.report

pub alike : (file : List ℕ) (b c : Buffers) → Fitting b → Fitting c → b.memory ≡ c.memory → b.log ≡ c.log → b.report ≡ c.report
    → Alike (separate file b) (separate file c)
alike file b c fits fitc memory log report = go (check file) refl
  where
    by : {r s : Reply} → separate file b ≡ r → separate file c ≡ s → Alike r s → Alike (separate file b) (separate file c)
    by {r} {s} e f x = subst⁻¹ (λ (q : Reply). Alike q (separate file c)) e (subst⁻¹ (λ (q : Reply). Alike r q) f x)

    end : (m : List ℕ) → m ≡ c.memory → end_of_plan file m ≡ end_of_plan file c.memory
    end m e = ap (λ (x : List ℕ). end_of_plan file x) e

    go : (v : Verdict) → check file ≡ v → Alike (separate file b) (separate file c)
    go accepted e =
        by (separate-accepted file b fits e) (separate-accepted file c fitc e)
        (record {
          returned = refl;
          memory = ap (λ (x : Buffers). x.memory) (end b.memory memory);
          log = ap (λ (x : Buffers). x.log) (end b.memory memory);
          report = ap (λ (x : Buffers). x.report) (end b.memory memory);
        })
    go (refused f i) e =
        by (separate-refused file b fits f i e) (separate-refused file c fitc f i e)
        (record { returned = refl; memory = memory; log = log; report = report })

-- ---- plan k's parts are put in their places

-- the buffers are as long as so many plans want them
pub record Sized (count : ℕ) (b : Batch) : Type 0 where
  pub memories : length b.memories ≡ memory_length * count
  pub logs : length b.logs ≡ log_length * count
  pub reports : length b.reports ≡ report_length * count
  pub answers : length b.answers ≡ count
  pub work : length b.work ≡ work_length

module _ {count : ℕ} {d : Batch} (sized : Sized count d) (k : ℕ) (l : k < count) where
  room : (unit : ℕ) (bytes : List ℕ) → length bytes ≡ unit * count → unit * k + unit ≤ length bytes
  room unit bytes size = omega (arith, unit-below unit k count l, size)

  pub parts-fit : Fitting (parts_of k d)
  parts-fit =
      record {
        memory = part_length memory_length k d.memories (room memory_length d.memories sized.memories);
        log = part_length log_length k d.logs (room log_length d.logs sized.logs);
        report = part_length report_length k d.reports (room report_length d.reports sized.reports);
        work = sized.work;
      }

  module _ (r : Reply) (fits : Fitting r.buffers) where
    abbrev left : Batch
    left = left_by k r d

    left-sized : Sized count left
    left-sized =
        record {
          memories = parts-length memory_length k r.buffers.memory d.memories fits.memory (room memory_length d.memories sized.memories) ∙ sized.memories;
          logs = parts-length log_length k r.buffers.log d.logs fits.log (room log_length d.logs sized.logs) ∙ sized.logs;
          reports = parts-length report_length k r.buffers.report d.reports fits.report (room report_length d.reports sized.reports) ∙ sized.reports;
          answers = length-set d.answers k (answer_of r.returned) ∙ sized.answers;
          work = fits.work;
        }

    abbrev lend : List ℕ → List ℕ → List ℕ → List ℕ → Buffers
    lend memory log report work = record { memory = memory; log = log; report = report; work = work }

    left-mine : parts_of k left ≡ r.buffers
    left-mine =
        ap (λ (x : List ℕ). lend x (part_at log_length k left.logs) (part_at report_length k left.reports) left.work)
        (part_same memory_length k r.buffers.memory d.memories fits.memory (room memory_length d.memories sized.memories))
        ∙ (ap (λ (x : List ℕ). lend r.buffers.memory x (part_at report_length k left.reports) left.work)
        (part_same log_length k r.buffers.log d.logs fits.log (room log_length d.logs sized.logs))
        ∙ ap (λ (x : List ℕ). lend r.buffers.memory r.buffers.log x left.work)
        (part_same report_length k r.buffers.report d.reports fits.report (room report_length d.reports sized.reports)))

    module _ (m : ℕ) (other : m ≡ k → ⊥) where
      left-memory : part_at memory_length m left.memories ≡ part_at memory_length m d.memories
      left-memory = part-other memory_length k r.buffers.memory d.memories fits.memory (room memory_length d.memories sized.memories) m other

      left_other : parts_of m left ≡ lend (part_at memory_length m d.memories) (part_at log_length m d.logs) (part_at report_length m d.reports) left.work
      left_other =
          ap (λ (x : List ℕ). lend x (part_at log_length m left.logs) (part_at report_length m left.reports) left.work) left-memory
          ∙ (ap (λ (x : List ℕ). lend (part_at memory_length m d.memories) x (part_at report_length m left.reports) left.work)
          (part-other log_length k r.buffers.log d.logs fits.log (room log_length d.logs sized.logs) m other)
          ∙ ap (λ (x : List ℕ). lend (part_at memory_length m d.memories) (part_at log_length m d.logs) x left.work)
          (part-other report_length k r.buffers.report d.reports fits.report (room report_length d.reports sized.reports) m other))

-- ---- plan after plan

-- what plan m is lent, work aside, is the same in both
record Untouched (b d : Batch) (m : ℕ) : Type 0 where
  pub memory : part_at memory_length m d.memories ≡ part_at memory_length m b.memories
  pub log : part_at log_length m d.logs ≡ part_at log_length m b.logs
  pub report : part_at report_length m d.reports ≡ part_at report_length m b.reports

record RanSoFar (files lengths : List ℕ) (count : ℕ) (b : Batch) (k : ℕ) (d : Batch) : Type 0 where
  pub sized : Sized count d
  -- the parts of later plans are as they were lent
  pub untouched : (m : ℕ) → k ≤ m → Untouched b d m
  pub left : (m : ℕ) → m < k → PlanLeft (file_at files lengths m) (parts_of m b) (parts_of m d) (get_or d.answers m 0)

module _ (files lengths : List ℕ) (count : ℕ) (b : Batch) where
  module _ (k : ℕ) (d : Batch) (l : k < count) (so : RanSoFar files lengths count b k d) where
    abbrev r : Reply
    r = separate (file_at files lengths k) (parts_of k d)

    abbrev after : Batch
    after = left_by k r d

    alone : Separately (file_at files lengths k) (parts_of k d) (separate (file_at files lengths k) (parts_of k d))
    alone = separately (file_at files lengths k) (parts_of k d) (parts-fit so.sized k l)

    -- the parts of plan k itself
    mine : parts_of k (left_by k (separate (file_at files lengths k) (parts_of k d)) d) ≡ (separate (file_at files lengths k) (parts_of k d)).buffers
    mine = left-mine so.sized k l r alone.fits

    answered : get_or (set d.answers k (answer_of (separate (file_at files lengths k) (parts_of k d)).returned)) k 0
        ≡ answer_of (separate (file_at files lengths k) (parts_of k d)).returned
    answered = get_or-set_same d.answers k (answer_of r.returned) 0 (omega (arith, so.sized.answers))

    this-left : PlanLeft (file_at files lengths k) (parts_of k b) (parts_of k (left_by k (separate (file_at files lengths k) (parts_of k d)) d))
        (get_or (set d.answers k (answer_of (separate (file_at files lengths k) (parts_of k d)).returned)) k 0)
    this-left = record {
      ended = λ e.
          let (zero-answer, same) = alone.left.ended e in
          (answered ∙ zero-answer, mine ∙ (same ∙ ap (λ (x : List ℕ). end_of_plan (file_at files lengths k) x) before.memory));
      untouched = λ f i e.
          let (number, memory, log, report) = alone.left.untouched f i e in (
            answered ∙ number,
            ap (λ (x : Buffers). x.memory) mine ∙ (memory ∙ before.memory),
            ap (λ (x : Buffers). x.log) mine ∙ (log ∙ before.log),
            ap (λ (x : Buffers). x.report) mine ∙ (report ∙ before.report),
          );
    }
      where
        before : Untouched b d k
        before = so.untouched k (omega arith)

    -- those of another plan
    module _ (m : ℕ) (other : m ≡ k → ⊥) where
      parts_stay : Untouched d (left_by k (separate (file_at files lengths k) (parts_of k d)) d) m
      parts_stay =
          let same = left_other so.sized k l r alone.fits m other in
          record {
            memory = ap (λ (x : Buffers). x.memory) same;
            log = ap (λ (x : Buffers). x.log) same;
            report = ap (λ (x : Buffers). x.report) same;
          }

      that-left : m < k
          → PlanLeft (file_at files lengths m) (parts_of m b) (parts_of m (left_by k (separate (file_at files lengths k) (parts_of k d)) d))
          (get_or (set d.answers k (answer_of (separate (file_at files lengths k) (parts_of k d)).returned)) m 0)
      that-left h = record {
        ended = λ e.
            let (zero-answer, same) = (so.left m h).ended e in
            let zeros = ap (λ (x : Buffers). x.work) same in (
              stays ∙ zero-answer,
              left_other so.sized k l r alone.fits m other
                  ∙ (ap (λ (x : List ℕ). record { memory = part_at memory_length m d.memories; log = part_at log_length m d.logs; report = part_at report_length m d.reports; work = x })
                  (alone.cleared zeros ∙ sym zeros) ∙ same),
            );
        untouched = λ f i e.
            let (number, memory, log, report) = (so.left m h).untouched f i e in
            (stays ∙ number, parts_stay.memory ∙ memory, parts_stay.log ∙ log, parts_stay.report ∙ report);
      }
        where
          stays : get_or (set d.answers k (answer_of r.returned)) m 0 ≡ get_or d.answers m 0
          stays = get_or-set_other d.answers k m (answer_of r.returned) 0 other

    one_more : RanSoFar files lengths count b (suc k) (left_by k (separate (file_at files lengths k) (parts_of k d)) d)
    one_more =
        record {
          sized = left-sized so.sized k l r alone.fits;
          untouched = λ m h.
              let stay = parts_stay m (λ e. omega arith) in
              let before = so.untouched m (omega arith) in
              record { memory = stay.memory ∙ before.memory; log = stay.log ∙ before.log; report = stay.report ∙ before.report };
          left = λ m h. go m h (ℕ_discrete m k);
        }
      where
        go : (m : ℕ) → m < suc k → Dec (m ≡ k) → PlanLeft (file_at files lengths m) (parts_of m b) (parts_of m after) (get_or after.answers m 0)
        go m h (yes e) =
            subst⁻¹ (λ (i : ℕ). PlanLeft (file_at files lengths i) (parts_of i b) (parts_of i after) (get_or after.answers i 0)) e this-left
        go m h (no other) = that-left m other (omega arith)

  all-ran : Sized count b → (k : ℕ) → k ≤ count → RanSoFar files lengths count b k (run_plans files lengths k b)
  unfolding run_plans
  all-ran sized zero h =
      record { sized = sized; untouched = λ m l. record { memory = refl; log = refl; report = refl }; left = λ m l. absurd (omega arith) }
  all-ran sized (suc k) h = one_more k (run_plans files lengths k b) h (all-ran sized k (omega arith))

  pub plans-sized : Sized count b → (k : ℕ) → k ≤ count → Sized count (run_plans files lengths k b)
  plans-sized sized k h = (all-ran sized k h).sized

  pub each_left : EvenlyLent count files lengths b → length b.work ≡ work_length → EachLeft count files lengths b (run_plans files lengths count b)
  each_left even work =
      (all-ran
      (record { memories = even.memories_fit; logs = even.logs_fit; reports = even.reports_fit; answers = even.answers_fit; work = work })
      count (omega arith)).left
