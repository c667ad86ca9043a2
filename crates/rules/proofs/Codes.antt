-- The laws of the codes. Callers want `code_same`, `code-asleep`, `step-sync`, `op-sync` and `operand-sync`.
-- Assumes nothing.
use Prim.Native.Nat.{ℕ, ◌+◌, ◌*◌, ◌≤◌, ◌<◌}
use native.Mathlib.Omega.{arith}
use borrow.Author.Tests.{eq-eqb, ne_eqb, eqb-true, eqb-false}
use mathlib.Core.Bool.{Bool, true, false}
use mathlib.Core.Option.{none, some}
use mathlib.Core.Path.{◌≡◌, refl}
use lib.Dec.{eqb}
use Rattle.protocol.specs.Ops.{op_start}
use Rattle.protocol.specs.Format.{Record, row_in, row_of, step_of, sync, exit, synchronises}
use Rattle.protocol.specs.Steps.{QueueName, on_condition, at_barrier, Fate, going, exited, failed, asleep, waiting}
use Rattle.protocol.specs.Rounds.{waits_on, is_asleep, op_of, operand_of}
use Rattle.protocol.proofs.Each.{each}
use Rattle.protocol.proofs.Points.{from_first}
use Rattle.format.specs.Fates.{code_asleep, code_on_condition}
use Rattle.rules.specs.Codes.{fate_code, sync_of}

-- who waits, by the code
not-waiting : (k : ℕ) → k < code_on_condition → (q : QueueName) → eqb k (fate_code (waiting q)) ≡ false
not-waiting k h (on_condition c) = ne_eqb k (4 + 2 * c) (λ e. omega arith)
not-waiting k h (at_barrier b) = ne_eqb k (5 + 2 * b) (λ e. omega arith)

twice : (k c d : ℕ) (b : Bool) → eqb c d ≡ b → eqb (k + 2 * d) (k + 2 * c) ≡ b
twice k c d true e = let h = eqb-true c d e in eq-eqb (k + 2 * d) (k + 2 * c) (omega arith)
twice k c d false e = let h = eqb-false c d e in ne_eqb (k + 2 * d) (k + 2 * c) (λ z. h (omega arith))

pub code_same : (f : Fate) (q : QueueName) → eqb (fate_code f) (fate_code (waiting q)) ≡ waits_on q f
code_same going q = not-waiting 0 (omega arith) q
code_same exited q = not-waiting 1 (omega arith) q
code_same failed q = not-waiting 2 (omega arith) q
code_same asleep q = not-waiting 3 (omega arith) q
code_same (waiting (on_condition d)) (on_condition c) = twice 4 c d (eqb c d) refl
code_same (waiting (on_condition d)) (at_barrier c) = ne_eqb (4 + 2 * d) (5 + 2 * c) (λ e. omega arith)
code_same (waiting (at_barrier d)) (on_condition c) = ne_eqb (5 + 2 * d) (4 + 2 * c) (λ e. omega arith)
code_same (waiting (at_barrier d)) (at_barrier c) = twice 5 c d (eqb c d) refl

pub code-asleep : (f : Fate) → eqb (fate_code f) code_asleep ≡ is_asleep f
code-asleep going = refl
code-asleep exited = refl
code-asleep failed = refl
code-asleep asleep = refl
code-asleep (waiting (on_condition c)) = ne_eqb (4 + 2 * c) 3 (λ e. omega arith)
code-asleep (waiting (at_barrier b)) = ne_eqb (5 + 2 * b) 3 (λ e. omega arith)

-- the step of a record of the plan file
pub step-sync : (r : Record) → synchronises r.op ≡ true → r.op ≤ op_start → step_of r ≡ sync (sync_of r.op r.number)
unfolding step_of row_in sync_of
step-sync r syncs last =
    each (λ op. elim (row_of op) [ none ↦ sync exit | some x ↦ x.step r.register r.number ] ≡ sync (sync_of op r.number)) 32 7
    refl refl refl refl refl refl refl refl r.op (from_first syncs) last

pub op-sync : (op number : ℕ) → synchronises op ≡ true → op ≤ op_start → op_of (sync_of op number) ≡ op
unfolding sync_of
op-sync op number syncs last = each (λ k. op_of (sync_of k number) ≡ k) 32 7 refl refl refl refl refl refl refl refl op (from_first syncs) last

pub operand-sync : (op number : ℕ) → synchronises op ≡ true → op ≤ op_start → (op ≡ 38 → number ≡ 0) → operand_of (sync_of op number) ≡ number
unfolding sync_of
operand-sync op number syncs last =
    each (λ k. (k ≡ 38 → number ≡ 0) → operand_of (sync_of k number) ≡ number) 32 7
    (λ e. refl) (λ e. refl) (λ e. refl) (λ e. refl) (λ e. refl) (λ e. refl) (λ e. rw (e refl)) (λ e. refl) op (from_first syncs) last
