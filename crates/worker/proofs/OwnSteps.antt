-- The laws of a worker's own steps: by the op they are what the definitions say. Callers want `step-own`.
-- Assumes nothing.
use Rattle.std.proofs.Common.{◌≡◌, ℕ, ◌+◌, ◌-◌, ◌%◌, ◌<◌, ◌≤◌, Bool, true, false, cond, not, eqb, List, get_or, refl, arith, eq-eqb, ne_eqb}
use native.Mathlib.Decide.{ℕ_discrete}
use mathlib.Core.Option.{none, some}
use Rattle.std.specs.Prelude.{Some, None}
use Rattle.protocol.specs.Format.{steps_limit, Record, row_in, row_of, step_of, own, sync, exit}
use Rattle.protocol.specs.Pages.{Copies, load_word}
use Rattle.protocol.specs.Steps as steps
use Rattle.protocol.specs.Steps.{Fate, own_step, setting, place_as}
use Rattle.protocol.proofs.Each.{each}
use Rattle.worker.specs.declared.Worker.{Worker}
use Rattle.worker.specs.Private.{registers_of, viewed, Replaced, own_of, result_of, skip_of, OwnStepping, OwnStepped}

-- the step of a record of the plan file
pub step-own : (r : Record) → 16 ≤ r.op → r.op ≤ 22 → step_of r ≡ own (own_of r.op r.register r.number)
unfolding step_of row_in own_of
step-own r least most =
    each (λ op. elim (row_of op) [ none ↦ sync exit | some x ↦ x.step r.register r.number ] ≡ own (own_of op r.register r.number)) 16 6
    refl refl refl refl refl refl refl r.op least most

-- a skip by its two tests, however the code puts them together
pub skip_by : (op value number : ℕ) {r : ℕ}
    → (op ≡ 21 → value ≡ 0 → r ≡ number) → (op ≡ 21 → (value ≡ 0 → ⊥) → r ≡ 0)
    → ((op ≡ 21 → ⊥) → value ≡ 0 → r ≡ 0) → ((op ≡ 21 → ⊥) → (value ≡ 0 → ⊥) → r ≡ number)
    → r ≡ skip_of op value number
unfolding skip_of
skip_by op value number both first second neither =
    elim (ℕ_discrete op 21) [
      | yes a ↦ elim (ℕ_discrete value 0) [
        | yes z ↦ rw (eq-eqb op 21 a, eq-eqb value 0 z) (both a z)
        | no z ↦ rw (eq-eqb op 21 a, ne_eqb value 0 z) (first a z)
      ]
      | no a ↦ elim (ℕ_discrete value 0) [
        | yes z ↦ rw (ne_eqb op 21 a, eq-eqb value 0 z) (second a z)
        | no z ↦ rw (ne_eqb op 21 a, ne_eqb value 0 z) (neither a z)
      ]
    ]

-- the code's wrapped sum and difference are the definition's
module _ (registers : List ℕ) (op value number loaded : ℕ) {operand r : ℕ} (holds : operand ≡ get_or registers number 0) where
  pub added : op ≡ 19 → r ≡ (value + operand) % 65536 → r ≡ result_of registers op value number loaded
  unfolding result_of
  added e wraps = rw e (rw holds at wraps)

  pub subtracted : op ≡ 20 → value < 65536 → operand < 65536 → r < 65536 → (r + operand) % 65536 ≡ value → r ≡ result_of registers op value number loaded
  unfolding result_of
  subtracted e hv ho hr wraps =
      let difference : r ≡ (value + 65536 - operand) % 65536 = omega arith in
      rw e (rw holds at difference)

module _ (v : Worker) (register number : ℕ) (memory locks : List ℕ) (arrived : Bool) (copies : Copies) (fate : Fate) where
  -- the worker behind an own step
  abbrev after : ℕ → steps.Worker
  after op = own_step memory (own_of op register number) (viewed v locks arrived copies fate)

  -- ops 16, 17, 19 and 20 set a register
  set-step :
      (op loaded : ℕ) → 16 ≤ op → op < 21 → (op ≡ 18 → ⊥) → (op ≡ 17 → loaded ≡ load_word memory copies number)
      → after op ≡ setting register (result_of (registers_of v) op (get_or (registers_of v) register 0) number loaded) (viewed v locks arrived copies fate)
  unfolding own_of own_step result_of
  set-step op loaded least most =
      each
      (λ k.
      (k ≡ 18 → ⊥) → (k ≡ 17 → loaded ≡ load_word memory copies number)
      → after k ≡ setting register (result_of (registers_of v) k (get_or (registers_of v) register 0) number loaded) (viewed v locks arrived copies fate))
      16 4 (λ n read. refl) (λ n read. rw (read refl)) (λ n read. absurd (n refl)) (λ n read. refl) (λ n read. refl) op least (omega arith)

  -- ops 21 and 22 skip
  skip_step : (op : ℕ) → 21 ≤ op → op ≤ 22 → after op ≡ place_as (v.place + 1 + skip_of op (get_or (registers_of v) register 0) number) (viewed v locks arrived copies fate)
  unfolding own_of own_step skip_of
  skip_step op least most =
      each (λ k. after k ≡ place_as (v.place + 1 + skip_of k (get_or (registers_of v) register 0) number) (viewed v locks arrived copies fate))
      21 1 refl refl op least most

pub skip-small : (op value number : ℕ) → number < steps_limit → skip_of op value number < steps_limit
unfolding skip_of
skip-small op value number h = go (cond (eqb op 21) (eqb value 0) (not (eqb value 0)))
  where
    go : (b : Bool) → cond b number 0 < steps_limit
    go true = h
    go false = omega arith

abbrev at : ℕ → Worker → Worker
at place v = record { place = place; held = v.held; registers = v.registers }

-- what the three ways through a step give, from what the code has found
module _ (v : Worker) (op register number loaded : ℕ) (ready : OwnStepping v op register number) {value : ℕ} (holds : value ≡ get_or (registers_of v) register 0) where
  pub stores : op ≡ 18 → OwnStepped v op register number loaded (record { worker = at (v.place + 1) v; outcome = Some value })
  unfolding own_of own_step
  stores e = record { step = λ memory locks arrived copies fate read. rw (e, holds); held = refl }

  pub skips :
      21 ≤ op → {skip : ℕ} → skip ≡ skip_of op value number
      → OwnStepped v op register number loaded (record { worker = at (v.place + 1 + skip) v; outcome = None })
  skips h e =
      record {
        step = λ memory locks arrived copies fate read. rw (e, holds) (skip_step v register number memory locks arrived copies fate op h ready.most);
        held = refl;
      }

  pub sets :
      (op ≡ 18 → ⊥) → op < 21 → {result : ℕ} → result ≡ result_of (registers_of v) op value number loaded
      → {left : Worker} → Replaced (at (v.place + 1) v) register result left
      → OwnStepped v op register number loaded (record { worker = left; outcome = None })
  sets n h e w =
      record {
        step = λ memory locks arrived copies fate read.
            rw (w.place, w.registers, e, holds) (set-step v register number memory locks arrived copies fate op loaded ready.least h n read);
        held = w.held;
      }
