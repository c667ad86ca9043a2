-- A call with many plans: what a refused one and an accepted one return and leave.
use Prim.Native.Nat.{ℕ}
use mathlib.Core.Bool.{Bool, true, false, cond}
use mathlib.Core.Path.{◌≡◌, refl, sym, ap, ◌∙◌, subst⁻¹}
use mathlib.Core.List.{List}
use lib.ListN.{length, replicate}
use Rattle.protocol.specs.Refusals.{Verdict, accepted, refused, code_of}
use Rattle.protocol.specs.Calls.{work_length}
use Rattle.protocol.specs.Batch.{Batch, BatchReply, batch_verdict, batch_reply, run_plans, run_all}
use Rattle.protocol.specs.WellFormed.{EvenlyLent}
use Rattle.protocol.specs.Demands.{EachLeft, BatchRepliedAlike}
use Rattle.protocol.proofs.BatchDue.{accepted-lent}
use Rattle.protocol.proofs.Batches.{each_left}
use Rattle.protocol.proofs.UnnamedBytes.{each_keeps, batches-alike}
use Rattle.admission.specs.Plans.{sizes_of, batch_code}
use Rattle.tampermauve.specs.All.{batch, RanPlans, RanAll}
use Rattle.admission.proofs.Admitting.{none-refused}

module _ (count : ℕ) (files lengths : List ℕ) (b : Batch) where
  abbrev code : ℕ
  code = batch_code count lengths (sizes_of files lengths b)

  -- what an answer of 0 says of the buffers
  lent : code ≡ 0 → EvenlyLent count files lengths b × (length b.work ≡ work_length)
  unfolding batch_verdict
  lent z = accepted-lent count files lengths b (none-refused (batch_verdict count files lengths b) z)

  pub work-fits : code ≡ 0 → length b.work ≡ work_length
  work-fits z = (lent z).1

  pub even : code ≡ 0 → EvenlyLent count files lengths b
  even z = (lent z).0

  -- what is said of bytes nobody named follows from what the call returns and leaves
  ran-all : (r : ℕ) (after : Batch) → ◌≡◌ {A = BatchReply} (record { returned = r; batch = after }) (run_all count files lengths b)
      → (r ≡ 0 → EachLeft count files lengths b after) → RanAll count files lengths b r after
  ran-all r after same each =
      record {
        same = same;
        each = each;
        unnamed = λ z. each_keeps count files lengths b after (each z);
        beside = λ other alike.
            subst⁻¹ (λ (o : BatchReply). BatchRepliedAlike count b other o (run_all count files lengths other)) same
            (batches-alike count files lengths b other alike);
      }

  -- refused: nothing is touched
  pub refused_all : (r : ℕ) → r ≡ code → (r ≡ 0 → ⊥) → RanAll count files lengths b r b
  unfolding run_all batch_verdict
  refused_all r e some = ran-all r b (go (batch_verdict count files lengths b) e) (λ z. absurd (some z))
    where
      go : (v : Verdict) → r ≡ code_of v → ◌≡◌ {A = BatchReply} (record { returned = r; batch = b }) (batch_reply v (run_plans files lengths count b) b)
      go accepted f = absurd (some f)
      go (refused f i) g = ap (λ (n : ℕ). record { returned = n; batch = b }) g

  -- accepted: all plans have run, and work is cleared if one of them was accepted
  module _ (z : code ≡ 0) {any : Bool} {after : Batch} (r : RanPlans files lengths count b any after) (size : length after.work ≡ work_length) where
    abbrev end : Batch
    end = run_plans files lengths count b

    work-left : cond any (replicate (length after.work) 0) after.work ≡ end.work
    work-left = go any refl
      where
        go : (t : Bool) → any ≡ t → cond t (replicate (length after.work) 0) after.work ≡ end.work
        go true e = ap (λ (n : ℕ). replicate n 0) size ∙ sym (r.cleared e)
        go false e = (r.lent e).1 ∙ sym (r.lent e).0

    module _ {work : List ℕ} (left : work ≡ cond any (replicate (length after.work) 0) after.work) where
      same-batch : batch after.memories after.logs after.reports after.answers work ≡ end
      same-batch =
          ap (λ (x : List ℕ). batch x after.logs after.reports after.answers work) r.memories
          ∙ (ap (λ (x : List ℕ). batch end.memories x after.reports after.answers work) r.logs
          ∙ (ap (λ (x : List ℕ). batch end.memories end.logs x after.answers work) r.reports
          ∙ (ap (λ (x : List ℕ). batch end.memories end.logs end.reports x work) r.answers
          ∙ ap (λ (x : List ℕ). batch end.memories end.logs end.reports end.answers x) (left ∙ work-left))))

      pub accepted-all : RanAll count files lengths b 0 (batch after.memories after.logs after.reports after.answers work)
      unfolding run_all batch_verdict
      accepted-all =
          ran-all 0 _
          (ap (λ (x : Batch). record { returned = 0; batch = x }) same-batch
          ∙ ap (λ (v : Verdict). batch_reply v (run_plans files lengths count b) b) (sym (none-refused (batch_verdict count files lengths b) z)))
          (λ e. subst⁻¹ (λ (x : Batch). EachLeft count files lengths b x) same-batch (each_left files lengths count b (even z) (work-fits z)))
