-- Demand 3, of the bytes that an accepted run leaves.
use Prim.Native.Nat.{ℕ, ◌/◌, ◌%◌, ◌<◌}
use native.Mathlib.Omega.{arith}
use mathlib.Core.Bool.{Bool, true, false, cond}
use mathlib.Core.Path.{◌≡◌, refl, sym, ap, ◌∙◌, subst⁻¹}
use mathlib.Core.List.{List}
use lib.ListN.{length}
use Rattle.protocol.specs.Format.{word, Plan, plan_of}
use Rattle.protocol.specs.Refusals.{Verdict, accepted}
use Rattle.protocol.specs.Rounds.{State}
use Rattle.protocol.specs.Turns.{ended}
use Rattle.protocol.specs.Report.{finished, stuck, under_way, all_final, end_of, end_number, report_bytes}
use Rattle.protocol.specs.Calls.{Buffers, buffers_of, lent_log, played_from, reply_of, run_verdict, run}
use Rattle.protocol.specs.Demands.{Demand3, Demand3Bytes}
use Rattle.protocol.proofs.Sound.{Sound}
use Rattle.protocol.proofs.Accepted.{sound-file}
use Rattle.protocol.proofs.Formed.{run-file}
use Rattle.protocol.proofs.Demand3.{demand3}
use Rattle.protocol.proofs.Bounds.{Bounded, played-bounded}

-- numbers that fit two bytes
pub word_bytes : (k : ℕ) → k < 65536 → word (k % 256) (k / 256 % 256) ≡ k
word_bytes k h = omega arith

-- the report's first byte
pub end-byte : (s : State) → ended s ≡ true → end_number (end_of s) ≡ 0 → ⊥
unfolding end_of
end-byte s e z = go (all_final s.workers) (sym (ap (λ (b : Bool). end_number (cond b (cond (all_final s.workers) finished stuck) under_way)) e) ∙ z)
  where
    go : (b : Bool) → end_number (cond b finished stuck) ≡ 0 → ⊥
    go true z = omega arith
    go false z = omega arith

ended-byte : (s : State) → (end_number (end_of s) ≡ 0 → ⊥) → ended s ≡ true
unfolding end_of
ended-byte s h = go (ended s) refl
  where
    go : (b : Bool) → ended s ≡ b → ended s ≡ true
    go true e = e
    go false e = absurd (h (ap (λ (b : Bool). end_number (cond b (cond (all_final s.workers) finished stuck) under_way)) e))

-- what the buffers hold of the state that a list of turns leaves
left-bytes : (plan : Plan) → Sound plan → (memory turns : List ℕ) → Demand3Bytes plan memory turns (buffers_of (played_from plan memory turns))
unfolding report_bytes lent_log
left-bytes plan sound memory turns =
    record {
      same_end = λ h. ap buffers_of (d.same_end (ended-byte s h));
      log_prefix = (s.log, d.log_prefix, refl, word_bytes (length s.log) (omega (arith, b.records_fit)));
      moves_counted = word_bytes s.moves (omega (arith, b.moves_fit)) ∙ d.moves_counted;
      moves_bounded = d.moves_bounded;
      cycles_end = λ c. end-byte s (d.cycles_end c);
    }
  where
    s : State
    s = played_from plan memory turns

    b : Bounded plan s
    b = played-bounded plan sound memory turns

    d : Demand3 plan memory turns
    d = demand3 plan sound memory turns

-- Demand 3 of the bytes that an accepted run leaves, closed too.
pub demand3-bytes : (file turns : List ℕ) (b : Buffers) → run_verdict file turns b ≡ accepted
    → Demand3Bytes (plan_of file) b.memory turns (run file turns b).buffers
unfolding run
demand3-bytes file turns b ok =
    subst⁻¹ (λ (v : Verdict). Demand3Bytes plan b.memory turns (reply_of v (played_from plan b.memory turns) b).buffers) ok
    (left-bytes plan (sound-file file (run-file file turns b ok)) b.memory turns)
  where
    plan : Plan
    plan = plan_of file
