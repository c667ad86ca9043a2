-- The turns of a listing are taken and end the plan, so that what is listed is the round-by-round run. Callers want `ran-to-end`.
use Prim.Native.Nat.{ℕ}
use mathlib.Core.Path.{◌≡◌, refl, sym, ap, ◌∙◌, subst⁻¹}
use mathlib.Core.List.{List, []}
use lib.ListN.{get_or, replicate}
use Rattle.protocol.specs.Refusals.{Verdict, accepted, refused, code_of, check}
use Rattle.protocol.specs.Report.{under_way, end_number, report_bytes}
use Rattle.protocol.specs.Calls.{Buffers, Reply, buffers_of, check_code, memory_length, run}
use Rattle.protocol.specs.Listing.{turns_by}
use Rattle.protocol.specs.Batch.{separate}
use Rattle.protocol.specs.WellFormed.{Fitting}
use Rattle.protocol.proofs.Bytes.{end-byte}
use Rattle.protocol.proofs.Demand3.{demand3-file}
use Rattle.protocol.proofs.Batches.{end_of_plan, separate-accepted, separate-refused}
use Rattle.tampermauve.specs.Run.{Ran}
use Rattle.admission.proofs.Admitting.{none-refused}
use Rattle.journal.specs.Offsets.{report_end}
use Rattle.listed.specs.Listed.{listed_run, RanToEnd}

-- what a listing lends and feeds
pub record Feeds (file turns : List ℕ) (before : Buffers) : Type 0 where
  pub zeros : before.memory ≡ replicate memory_length 0
  pub fits : Fitting before
  pub full : turns ≡ turns_by (check file) file

pub ran-to-end : (file turns : List ℕ) (before after : Buffers) (r : ℕ) → Ran file turns before r after → Feeds file turns before
    → RanToEnd file r after.memory after.log after.report
unfolding report_bytes
ran-to-end file turns before after r ran feeds =
    record {
      code = code;
      same_memory = λ z. ap (λ (b : Buffers). b.memory) (same z);
      same_log = λ z. ap (λ (b : Buffers). b.log) (same z);
      same_report = λ z. ap (λ (b : Buffers). b.report) (same z);
      ended = ends;
    }
  where
    alone : ◌≡◌ {A = Reply} (record { returned = r; buffers = after }) (separate file before)
    alone = ran.same ∙ ap (λ (ts : List ℕ). run file ts before) feeds.full

    code : r ≡ check_code file
    code = ap (λ (o : Reply). o.returned) alone ∙ go (check file) refl
      where
        go : (v : Verdict) → check file ≡ v → (separate file before).returned ≡ check_code file
        go accepted e = ap (λ (o : Reply). o.returned) (separate-accepted file before feeds.fits e) ∙ sym (ap code_of e)
        go (refused f i) e = ap (λ (o : Reply). o.returned) (separate-refused file before feeds.fits f i e) ∙ sym (ap code_of e)

    ok : r ≡ 0 → check file ≡ accepted
    ok z = none-refused (check file) (sym code ∙ z)

    same : (z : r ≡ 0) → after ≡ buffers_of (listed_run file)
    same z =
        ap (λ (o : Reply). o.buffers) (alone ∙ separate-accepted file before feeds.fits (ok z))
        ∙ ap (λ (m : List ℕ). end_of_plan file m) feeds.zeros

    ends : r ≡ 0 → get_or after.report report_end 0 ≡ end_number under_way → ⊥
    ends z =
        subst⁻¹ (λ (b : Buffers). get_or b.report report_end 0 ≡ end_number under_way → ⊥) (same z)
        (end-byte (listed_run file) (demand3-file file (ok z) (replicate memory_length 0) []).round_run_ends)
