-- What the row of an op tells: that the op has a step, and when its operands are out of range.
use Prim.Native.Nat.{ℕ, ◌<◌}
use mathlib.Core.Bool.{true, false, true≢false}
use mathlib.Core.Path.{◌≡◌, refl, sym, ap, ◌∙◌}
use mathlib.Core.Option.{Option, none, some}
use Rattle.std.specs.Prelude.{Some, None}
use native.Mathlib.Omega.{arith}
use lib.Dec.{ltb, eqb}
use borrow.Author.Tests.{ne_eqb, ltb-false}
use Rattle.protocol.specs.Ops.{op_plan_record, op_barrier_record, op_sleep_record, op_barrier}
use Rattle.protocol.specs.Format as format
use Rattle.protocol.specs.Format.{row_of, row_in, known}
use Rattle.protocol.specs.Refusals.{operands_outside}
use Rattle.protocol.proofs.Bools.{or_right}
use Rattle.protocol.proofs.Covered.{row-known}
use Rattle.format.specs.Table.{limits_of, limits_in, limits_for}
use Rattle.format.specs.declared.table.Row.{Row}
use Rattle.plan.specs.Stepping.{outside_of}

pub unknown : (o : ℕ) → limits_for o ≡ None → known o ≡ false
unfolding known
unknown o e = go (row_of o) e
  where
    go : (x : Option format.Row) → limits_in x ≡ None → elim x [ none ↦ false | some y ↦ true ] ≡ false
    go none q = refl
    go (some y) q = let z : ◌≡◌ {A = ℕ} 0 1 = cc in absurd (omega arith)

module _ (o : ℕ) (row : Row) (e : limits_for o ≡ Some row) where
  table-row : (y : format.Row) × (row_of o ≡ some y) × (limits_of y ≡ row)
  table-row = go (row_of o) refl e
    where
      go : (x : Option format.Row) → row_of o ≡ x → limits_in x ≡ Some row → (y : format.Row) × (row_of o ≡ some y) × (limits_of y ≡ row)
      go none p q = let z : ◌≡◌ {A = ℕ} 0 1 = cc in absurd (omega arith)
      go (some y) p q = (y, p, cc)

  pub is_known : known o ≡ true
  is_known = row-known o table-row.0 table-row.1

  pub outside-row : (register number : ℕ) → operands_outside (row_of o) register number ≡ outside_of row register number
  unfolding operands_outside
  outside-row register number =
      ap (λ (x : Option format.Row). operands_outside x register number) table-row.1 ∙ ap (λ (x : Row). outside_of x register number) table-row.2

-- the ops of the records that are no steps are not known
module _ (o : ℕ) (k : known o ≡ true) where
  other-op : (p : ℕ) → known p ≡ false → eqb o p ≡ false
  other-op p f = ne_eqb o p (λ z. true≢false (sym k ∙ (ap known z ∙ f)))

  pub not-plan-record : eqb o op_plan_record ≡ false
  unfolding known row_in
  not-plan-record = other-op op_plan_record refl

  pub not-barrier-record : eqb o op_barrier_record ≡ false
  unfolding known row_in
  not-barrier-record = other-op op_barrier_record refl

  pub not-sleep-record : eqb o op_sleep_record ≡ false
  unfolding known row_in
  not-sleep-record = other-op op_sleep_record refl

-- a barrier step names one of the barriers
pub barrier-number : (o register number : ℕ) → o ≡ op_barrier → operands_outside (row_of o) register number ≡ false → number < format.barrier_count
unfolding row_in operands_outside
barrier-number o register number q e =
    let row = ap (λ (o : ℕ). operands_outside (row_of o) register number) (sym q) ∙ e in
    let most = ltb-false 7 number (or_right (ltb number 0) (or_right (ltb 0 register) row)) in
    omega arith
