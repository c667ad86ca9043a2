-- What the call returns; and of what it leaves demand 3, the sum, that it is what it was by count, and what is said of bytes nobody named.
use Prim.Native.Nat.{ℕ}
use mathlib.Core.Bool.{Bool, true, false}
use mathlib.Core.Path.{◌≡◌, refl, sym, ap, ◌∙◌, subst⁻¹}
use mathlib.Core.List.{List}
use native.Mathlib.Omega.{arith}
use lib.Dec.{ltb}
use lib.ListN.{length}
use Prim.Native.Nat.{◌≤◌}
use Rattle.protocol.specs.Format.{plan_of, records_limit}
use Rattle.protocol.proofs.Accepted.{check-index}
use Rattle.plan.specs.Answer.{refusal_of, refused_as}
use Rattle.plan.specs.declared.answer.Refused.{Refused}
use Rattle.protocol.specs.Refusals.{Refusal, Verdict, accepted, refused, code_of, check}
use Rattle.protocol.specs.Turns.{workers_of}
use Rattle.protocol.specs.RoundRun.{round_run}
use Rattle.protocol.specs.Calls.{Buffers, Reply, buffers_of, misfit, names_nobody, turns_limit, played_from, reply_of, verdict_by, run_verdict, run}
use Rattle.protocol.specs.Demands.{Demand3Bytes, SumShown, no_lock_failed, LeftAsByCount, UnnamedKept, LentAlike, RepliedAlike}
use Rattle.protocol.proofs.Bytes.{demand3-bytes}
use Rattle.protocol.proofs.Naming.{by-count-bytes}
use Rattle.protocol.proofs.UnnamedBytes.{call-keeps, calls-alike}
use Rattle.protocol.proofs.Numbered.{numbered}
use Rattle.admission.specs.Run.{verdict_for}
use Rattle.tampermauve.specs.Run.{Ran}
use Rattle.admission.proofs.Admitting.{none-refused}

-- the index of a run's refusal is that of a record, or 0
index-by : (m t s : Bool) (v : Verdict) (f : Refusal) (i : ℕ) → ((f : Refusal) (i : ℕ) → v ≡ refused f i → i ≤ records_limit) → verdict_by m t v s ≡ refused f i → i ≤ records_limit
index-by true t s v f i within e = let same : 0 ≡ i = cc in omega arith
index-by false true s v f i within e = let same : 0 ≡ i = cc in omega arith
index-by false false true accepted f i within e = let same : 0 ≡ i = cc in omega arith
index-by false false false accepted f i within e = absurd cc
index-by false false s (refused g j) f i within e = within f i e

pub run-index : (file turns : List ℕ) (m : Bool) (f : Refusal) (i : ℕ) → verdict_for file turns m ≡ refused f i → i ≤ records_limit
run-index file turns m f i =
    index-by m (ltb turns_limit (length turns)) (names_nobody (workers_of (plan_of file)) turns) (check file) f i (λ g j e. check-index file j g e)

-- what an accepted call says of the tests
pub record Cleared (m t : Bool) (v : Verdict) (s : Bool) : Type 0 where
  pub buffers : m ≡ false
  pub short : t ≡ false
  pub file : v ≡ accepted
  pub known : s ≡ false

tests-passed : (m t s : Bool) (v : Verdict) → verdict_by m t v s ≡ accepted → Cleared m t v s
tests-passed true t s v e = absurd cc
tests-passed false true s v e = absurd cc
tests-passed false false true accepted e = absurd cc
tests-passed false false false accepted e = record { buffers = refl; short = refl; file = refl; known = refl }
tests-passed false false s (refused f i) e = absurd cc

module _ (file turns : List ℕ) (b : Buffers) where
  pub passed : verdict_for file turns (misfit b) ≡ accepted → Cleared (misfit b) (ltb turns_limit (length turns)) (check file) (names_nobody (workers_of (plan_of file)) turns)
  passed = tests-passed (misfit b) (ltb turns_limit (length turns)) (names_nobody (workers_of (plan_of file)) turns) (check file)

  pub returned-code : (run file turns b).returned ≡ code_of (verdict_for file turns (misfit b))
  unfolding run run_verdict
  returned-code = go (run_verdict file turns b)
    where
      go : (v : Verdict) → (reply_of v (played_from (plan_of file) b.memory turns) b).returned ≡ code_of v
      go accepted = refl
      go (refused f i) = refl

  -- demand 3 follows from what the call returns and leaves
  pub ran : (r : ℕ) (after : Buffers) → ◌≡◌ {A = Reply} (record { returned = r; buffers = after }) (run file turns b) → (r ≡ 0 → SumShown after)
      → Ran file turns b r after
  unfolding run_verdict
  ran r after same sum =
      record { same = same; demand3 = carried; sum = sum; by_count = counted; unnamed = kept; beside = alike }
    where
      verdict : r ≡ 0 → run_verdict file turns b ≡ accepted
      verdict z = none-refused (run_verdict file turns b) (sym returned-code ∙ (sym (ap (λ (o : Reply). o.returned) same) ∙ z))

      carried : r ≡ 0 → Demand3Bytes (plan_of file) b.memory turns after
      carried z =
          subst⁻¹ (λ (left : Buffers). Demand3Bytes (plan_of file) b.memory turns left) (ap (λ (o : Reply). o.buffers) same)
          (demand3-bytes file turns b (verdict z))

      counted : r ≡ 0 → no_lock_failed (round_run (plan_of file) b.memory).log ≡ true → LeftAsByCount (plan_of file) b.memory turns after
      counted z clean =
          subst⁻¹ (λ (left : Buffers). LeftAsByCount (plan_of file) b.memory turns left) (ap (λ (o : Reply). o.buffers) same)
          (by-count-bytes file turns b (verdict z) clean)

      kept : UnnamedKept (plan_of file) b.memory after.memory
      kept = subst⁻¹ (λ (o : Reply). UnnamedKept (plan_of file) b.memory o.buffers.memory) same (call-keeps file turns b)

      alike : (other : Buffers) → LentAlike (plan_of file) b other → RepliedAlike b other (record { returned = r; buffers = after }) (run file turns other)
      alike other lent = subst⁻¹ (λ (o : Reply). RepliedAlike b other o (run file turns other)) same (calls-alike file turns b other lent)

  pub refusal : (f : Refusal) (i : ℕ) → refused f i ≡ verdict_for file turns (misfit b)
      → ◌≡◌ {A = Reply} (record { returned = code_of (refused f i); buffers = b }) (run file turns b)
  unfolding run run_verdict
  refusal f i e = ap (λ (v : Verdict). reply_of v (played_from (plan_of file) b.memory turns) b) e

  pub refused-ran : (e : Refused) → refused_as e ≡ verdict_for file turns (misfit b) → (r : ℕ) → r ≡ code_of (refused_as e) → Ran file turns b r b
  refused-ran e bad r same =
      ran r b (ap (λ (k : ℕ). record { returned = k; buffers = b }) same ∙ refusal (refusal_of e.refusal) e.index bad)
      (λ z. absurd (omega (arith, same, z, (numbered (refusal_of e.refusal)).0)))

  pub acceptance : (after : Buffers) → accepted ≡ verdict_for file turns (misfit b) → after ≡ buffers_of (played_from (plan_of file) b.memory turns)
      → ◌≡◌ {A = Reply} (record { returned = 0; buffers = after }) (run file turns b)
  unfolding run run_verdict
  acceptance after z e = go (run_verdict file turns b) (sym z)
    where
      go : (v : Verdict) → v ≡ accepted → ◌≡◌ {A = Reply} (record { returned = 0; buffers = after }) (reply_of v (played_from (plan_of file) b.memory turns) b)
      go v ok =
          ap (λ (left : Buffers). record { returned = 0; buffers = left }) e
          ∙ ap (λ (u : Verdict). reply_of u (played_from (plan_of file) b.memory turns) b) (sym ok)
