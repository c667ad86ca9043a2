-- Many plans in one call: the verdict is that of the first test that is due, and one that is accepted is lent evenly.
use Prim.Native.Nat.{ℕ, ◌*◌, ◌≤◌}
use native.Mathlib.Omega.{arith}
use mathlib.Core.Bool.{Bool, true, false, not, ◌||◌, false≢true}
use mathlib.Core.Path.{◌≡◌, refl, sym, ◌∙◌}
use mathlib.Core.List.{List, [], ◌∷◌}
use lib.Dec.{ltb, eqb}
use lib.ListN.{length}
use borrow.Author.Tests.{ltb-false, le-ltb, eqb-false, not-true, eq-eqb}
use Rattle.protocol.specs.Refusals.{bad_buffer, bad_batch, accepted, holds, refuse_if, outside}
use Rattle.protocol.specs.Calls.{memory_length, log_length, report_length, work_length}
use Rattle.protocol.specs.Batch.{Batch, plans_limit, length_bytes, begins_at, uneven_by, uneven, batch_by, batch_verdict}
use Rattle.protocol.specs.WellFormed.{EvenlyLent}
use Rattle.protocol.specs.Conditions.{test, batch_tests, FirstDue}
use Rattle.protocol.proofs.Bools.{or_left, or_right}
use Rattle.protocol.proofs.Covered.{nothing-due, Covers, covers-none, covers}
use Rattle.protocol.proofs.FirstDue.{same_length}

-- what the lengths of the buffers come to
pub record EvenBy (count lengths memories logs reports answers : ℕ) : Type 0 where
  pub least : 1 ≤ count
  pub most : count ≤ plans_limit
  pub lengths_fit : lengths ≡ length_bytes * count
  pub memories_fit : memories ≡ memory_length * count
  pub logs_fit : logs ≡ log_length * count
  pub reports_fit : reports ≡ report_length * count
  pub answers_fit : answers ≡ count

module _ (count lengths memories logs reports answers : ℕ) where
  -- the test, part by part
  abbrev by_count : Bool
  by_count = outside 1 plans_limit count

  abbrev by_lengths : Bool
  by_lengths = by_count || not (eqb lengths (length_bytes * count))

  abbrev by_memories : Bool
  by_memories = by_lengths || not (eqb memories (memory_length * count))

  abbrev by_logs : Bool
  by_logs = by_memories || not (eqb logs (log_length * count))

  abbrev by_reports : Bool
  by_reports = by_logs || not (eqb reports (report_length * count))

  pub even-by : uneven_by count lengths memories logs reports answers ≡ false → EvenBy count lengths memories logs reports answers
  even-by e =
      let reported = or_left by_reports _ e in
      let logged = or_left by_logs _ reported in
      let remembered = or_left by_memories _ logged in
      let long = or_left by_lengths _ remembered in
      let within = or_left by_count _ long in
      record {
        least = ltb-false count 1 (or_left (ltb count 1) _ within);
        most = ltb-false plans_limit count (or_right (ltb count 1) within);
        lengths_fit = same_length _ _ (or_right by_count long);
        memories_fit = same_length _ _ (or_right by_lengths remembered);
        logs_fit = same_length _ _ (or_right by_memories logged);
        reports_fit = same_length _ _ (or_right by_logs reported);
        answers_fit = same_length _ _ (or_right by_reports e);
      }

  pub by-even : EvenBy count lengths memories logs reports answers → uneven_by count lengths memories logs reports answers ≡ false
  by-even f =
      simp (
        le-ltb count 1 f.least,
        le-ltb plans_limit count f.most,
        eq-eqb _ _ f.lengths_fit,
        eq-eqb _ _ f.memories_fit,
        eq-eqb _ _ f.logs_fit,
        eq-eqb _ _ f.reports_fit,
        eq-eqb _ _ f.answers_fit,
      )

-- what it says of the tests that none was due
tests-passed : (w p s : Bool) → batch_by w p s ≡ accepted → (w ≡ false) × (p || s ≡ false)
tests-passed true p s e = let z : ◌≡◌ {A = ℕ} 0 1 = cc in absurd (omega arith)
tests-passed false true s e = let z : ◌≡◌ {A = ℕ} 0 1 = cc in absurd (omega arith)
tests-passed false false true e = let z : ◌≡◌ {A = ℕ} 0 1 = cc in absurd (omega arith)
tests-passed false false false e = (refl, refl)

module _ (count : ℕ) (files lengths : List ℕ) (b : Batch) where
  abbrev amiss : Bool
  amiss = uneven count lengths b || not (eqb (begins_at lengths count) (length files))

  pub evenly-lent : amiss ≡ false → EvenlyLent count files lengths b
  evenly-lent e =
      let f = even-by _ _ _ _ _ _ (or_left (uneven count lengths b) _ e) in
      record {
        least = f.least;
        most = f.most;
        lengths_fit = f.lengths_fit;
        memories_fit = f.memories_fit;
        logs_fit = f.logs_fit;
        reports_fit = f.reports_fit;
        answers_fit = f.answers_fit;
        sum = same_length _ _ (or_right (uneven count lengths b) e);
      }

  -- what an accepted call was lent
  pub accepted-lent : batch_verdict count files lengths b ≡ accepted → EvenlyLent count files lengths b × (length b.work ≡ work_length)
  unfolding batch_verdict
  accepted-lent e =
      let t = tests-passed (not (eqb (length b.work) work_length)) (uneven count lengths b) (not (eqb (begins_at lengths count) (length files))) e in
      (evenly-lent t.1, same_length _ _ t.0)

  not-amiss : EvenlyLent count files lengths b → amiss ≡ false
  not-amiss f =
      simp (
        by-even count (length lengths) (length b.memories) (length b.logs) (length b.reports) (length b.answers)
            (record { least = f.least; most = f.most; lengths_fit = f.lengths_fit; memories_fit = f.memories_fit; logs_fit = f.logs_fit; reports_fit = f.reports_fit; answers_fit = f.answers_fit }),
        eq-eqb _ _ f.sum,
      )

  -- The verdict on such a call is that of its first test that is due.
  pub batch-first : FirstDue (batch_tests count files lengths b) (batch_verdict count files lengths b)
  unfolding batch_verdict
  batch-first =
      (covers (not (eqb (length b.work) work_length)) bad_buffer (refuse_if amiss bad_batch holds) {c = length b.work ≡ work_length → ⊥}
      (λ e same. eqb-false (length b.work) work_length (not-true _ e) same)
      (λ e other. other (same_length _ _ e))
      (λ e. lengths_covered)).decides [] accepted nothing-due
    where
      lengths_covered : Covers (test bad_batch 0 (EvenlyLent count files lengths b → ⊥) ∷ []) (refuse_if amiss bad_batch holds) 0
      lengths_covered =
          covers amiss bad_batch holds {c = EvenlyLent count files lengths b → ⊥} (λ f even. false≢true (sym (not-amiss even) ∙ f)) (λ f other. other (evenly-lent f))
          (λ f. covers-none 0)
