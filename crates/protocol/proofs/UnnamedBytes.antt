-- Seven, of the bytes that calls leave: two runs with one file and one list of turns, and two calls with the same plans.
use Prim.Native.Nat.{ℕ, ◌-◌, ◌<◌}
use native.Mathlib.Omega.{arith}
use mathlib.Core.Path.{◌≡◌, refl, sym, ap, ◌∙◌, subst, subst⁻¹}
use mathlib.Core.List.{List, ◌++◌}
use lib.ListN.{length, get_or, replicate}
use Rattle.protocol.specs.Format.{plan_of}
use Rattle.protocol.specs.Refusals.{Verdict, accepted, refused, check}
use Rattle.protocol.specs.Rounds.{Entry, State}
use Rattle.protocol.specs.RoundRun.{round_run}
use Rattle.protocol.specs.Report.{log_bytes}
use Rattle.protocol.specs.Calls.{Buffers, log_length, lent_log, buffers_of, played_from, reply_of, run_verdict, run}
use Rattle.protocol.specs.Listing.{turns_by}
use Rattle.protocol.specs.Batch.{Batch, file_at, parts_of, batch_verdict, batch_reply, run_plans, run_all}
use Rattle.protocol.specs.Named.{SameNamed}
use Rattle.protocol.specs.Demands.{PlanLeft, EachLeft, UnnamedKept, SameButUnnamed, LeftAlike, LentAlike, RepliedAlike, BatchLentAlike, BatchRepliedAlike}
use Rattle.protocol.proofs.Numbered.{numbered}
use Rattle.protocol.proofs.Cycles.{listed-ends}
use Rattle.protocol.proofs.BatchDue.{accepted-lent}
use Rattle.protocol.proofs.Batches.{each_left}
use Rattle.protocol.proofs.Unnamed.{unnamed-kept, same-but-unnamed}

-- ---- one file

left-alike : (memory other : List ℕ) (s t : State) → SameButUnnamed memory other s t → LeftAlike memory other (buffers_of s) (buffers_of t)
unfolding lent_log
left-alike memory other s t same =
    record {
      log = ap (λ (es : List Entry). log_bytes es ++ replicate (log_length - length (log_bytes es)) 0) same.log;
      report = same.report;
      elsewhere = same.elsewhere;
      sums = same.sums;
      work = (refl, refl);
    }

-- whatever a call answers, refused or not
pub call-keeps : (file turns : List ℕ) (b : Buffers) → UnnamedKept (plan_of file) b.memory (run file turns b).buffers.memory
unfolding run
call-keeps file turns b = go (run_verdict file turns b)
  where
    go : (v : Verdict) → UnnamedKept (plan_of file) b.memory (reply_of v (played_from (plan_of file) b.memory turns) b).buffers.memory
    go accepted = unnamed-kept (plan_of file) b.memory turns
    go (refused f i) = λ a miss. refl

module _ (file turns : List ℕ) (b c : Buffers) (lent : LentAlike (plan_of file) b c) where
  same-verdict : run_verdict file turns b ≡ run_verdict file turns c
  unfolding run_verdict
  same-verdict = rw (lent.memory.size, lent.log, lent.report, lent.work)

  pub calls-alike : RepliedAlike b c (run file turns b) (run file turns c)
  unfolding run
  calls-alike =
      subst⁻¹ (λ (v : Verdict). RepliedAlike b c (reply_of v (played_from (plan_of file) b.memory turns) b) (run file turns c)) same-verdict
      (go (run_verdict file turns c))
    where
      go : (v : Verdict)
          → RepliedAlike b c (reply_of v (played_from (plan_of file) b.memory turns) b) (reply_of v (played_from (plan_of file) c.memory turns) c)
      go accepted =
          record {
            returned = refl;
            refused = λ some. absurd (some refl);
            accepted = λ z. left-alike b.memory c.memory _ _ (same-but-unnamed (plan_of file) b.memory c.memory turns lent.memory);
          }
      go (refused f i) =
          record { returned = refl; refused = λ some. (refl, refl); accepted = λ z. absurd (omega (arith, z, (numbered f).0)) }

-- ---- many plans

-- one plan of both calls
record PlanAlike (memory other : List ℕ) (left right : Buffers) (answer reply : ℕ) : Type 0 where
  pub answers : answer ≡ reply
  pub accepted : answer ≡ 0 → LeftAlike memory other left right

module _ (file : List ℕ) (b c left right : Buffers) (answer reply : ℕ) (lent : SameNamed (plan_of file) b.memory c.memory) where
  module _ (ok : check file ≡ accepted) where
    abbrev turns : List ℕ
    turns = turns_by (check file) file

    -- by demand 3 the round-by-round run is what whole cycles leave
    rounds-alike : LeftAlike b.memory c.memory (buffers_of (round_run (plan_of file) b.memory)) (buffers_of (round_run (plan_of file) c.memory))
    rounds-alike =
        subst (λ (s : State). LeftAlike b.memory c.memory (buffers_of s) (buffers_of (round_run (plan_of file) c.memory))) (listed-ends file ok b.memory)
        (subst (λ (t : State). LeftAlike b.memory c.memory (buffers_of (played_from (plan_of file) b.memory turns)) (buffers_of t)) (listed-ends file ok c.memory)
        (left-alike b.memory c.memory _ _ (same-but-unnamed (plan_of file) b.memory c.memory turns lent)))

  plan-alike : PlanLeft file b left answer → PlanLeft file c right reply → PlanAlike b.memory c.memory left right answer reply
  plan-alike p q = go (check file) refl
    where
      go : (v : Verdict) → check file ≡ v → PlanAlike b.memory c.memory left right answer reply
      go accepted ok =
          record {
            answers = (p.ended ok).0 ∙ sym (q.ended ok).0;
            accepted = λ z.
                subst⁻¹ (λ (x : Buffers). LeftAlike b.memory c.memory x right) (p.ended ok).1
                (subst⁻¹ (λ (x : Buffers). LeftAlike b.memory c.memory (buffers_of (round_run (plan_of file) b.memory)) x) (q.ended ok).1 (rounds-alike ok));
          }
      go (refused f i) e =
          record {
            answers = (p.untouched f i e).0 ∙ sym (q.untouched f i e).0;
            accepted = λ z. absurd (omega (arith, z, (p.untouched f i e).0, (numbered f).0));
          }

-- of each plan, accepted or refused
plan-keeps : (file : List ℕ) (b left : Buffers) (answer : ℕ) → PlanLeft file b left answer → UnnamedKept (plan_of file) b.memory left.memory
plan-keeps file b left answer p = go (check file) refl
  where
    go : (v : Verdict) → check file ≡ v → UnnamedKept (plan_of file) b.memory left.memory
    go accepted ok =
        subst⁻¹ (λ (x : Buffers). UnnamedKept (plan_of file) b.memory x.memory) (p.ended ok).1
        (subst (λ (s : State). UnnamedKept (plan_of file) b.memory s.memory) (listed-ends file ok b.memory)
        (unnamed-kept (plan_of file) b.memory (turns_by (check file) file)))
    go (refused f i) e = λ a miss. ap (λ (bytes : List ℕ). get_or bytes a 0) (p.untouched f i e).1

module _ (count : ℕ) (files lengths : List ℕ) where
  pub each_keeps : (b after : Batch) → EachLeft count files lengths b after
      → (k : ℕ) → k < count → UnnamedKept (plan_of (file_at files lengths k)) (parts_of k b).memory (parts_of k after).memory
  each_keeps b after each k h = plan-keeps (file_at files lengths k) (parts_of k b) (parts_of k after) _ (each k h)

  module _ (b c : Batch) (lent : BatchLentAlike count files lengths b c) where
    same-batch-verdict : batch_verdict count files lengths b ≡ batch_verdict count files lengths c
    unfolding batch_verdict
    same-batch-verdict = rw (lent.memories, lent.logs, lent.reports, lent.answers, lent.work)

    ran : (d : Batch) → batch_verdict count files lengths d ≡ accepted → EachLeft count files lengths d (run_plans files lengths count d)
    ran d ok = let (even, work) = accepted-lent count files lengths d ok in each_left files lengths count d even work

    pub batches-alike : BatchRepliedAlike count b c (run_all count files lengths b) (run_all count files lengths c)
    unfolding run_all
    batches-alike =
        subst⁻¹ (λ (v : Verdict). BatchRepliedAlike count b c (batch_reply v (run_plans files lengths count b) b) (run_all count files lengths c)) same-batch-verdict
        (go (batch_verdict count files lengths c) refl)
      where
        each : batch_verdict count files lengths c ≡ accepted → (k : ℕ) → k < count
            → PlanAlike (parts_of k b).memory (parts_of k c).memory (parts_of k (run_plans files lengths count b)) (parts_of k (run_plans files lengths count c))
            (get_or (run_plans files lengths count b).answers k 0) (get_or (run_plans files lengths count c).answers k 0)
        each ok k h = plan-alike (file_at files lengths k) (parts_of k b) (parts_of k c) _ _ _ _ (lent.each k h) (ran b (same-batch-verdict ∙ ok) k h) (ran c ok k h)

        go : (v : Verdict) → batch_verdict count files lengths c ≡ v
            → BatchRepliedAlike count b c (batch_reply v (run_plans files lengths count b) b) (batch_reply v (run_plans files lengths count c) c)
        go accepted ok =
            record {
              returned = refl;
              refused = λ some. absurd (some refl);
              answers = λ z k h. (each ok k h).answers;
              accepted = λ z k h. (each ok k h).accepted;
            }
        go (refused f i) e =
            record {
              returned = refl;
              refused = λ some. (refl, refl);
              answers = λ z. absurd (omega (arith, z, (numbered f).0));
              accepted = λ z. absurd (omega (arith, z, (numbered f).0));
            }
