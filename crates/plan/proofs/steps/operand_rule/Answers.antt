-- `plan::steps::operand_rule` meets its contract: the row's ranges, then the size of the barrier or the worker that is named.
use borrow.Author.Tests.{eq-eqb, ne_eqb, lt-leb}
use native.Mathlib.Omega.{arith}
use Prim.Native.Nat.{ℕ}
use mathlib.Core.Bool.{false}
use mathlib.Core.Path.{◌≡◌, ◌∙◌, sym}
use lib.Dec.{eqb}
use Rattle.protocol.specs.Ops.{op_barrier, op_start}
use Rattle.protocol.specs.Format.{row_of}
use Rattle.protocol.specs.Refusals.{operands_outside}
use Rattle.plan.proofs.Limited.{outside-row, barrier-number}
use Rattle.plan.proofs.steps.operand_rule.Goals as goal

-- a barrier step is no start
barrier-only : (o : ℕ) → o ≡ op_barrier → eqb o op_start ≡ false
barrier-only o e = ne_eqb o op_start (λ z. omega arith)

pub returns-then-outside : goal.returns-then-outside
returns-then-outside c = simp (outside-row _ _ c.requires, ← c.outside.ensures, c.if-outside.true)

pub returns-then-r-lt-BARRIER : goal.returns-then-r-lt-BARRIER
returns-then-r-lt-BARRIER c =
    let inside_here : operands_outside (row_of c.args.r.op) c.args.r.register c.args.r.number ≡ false =
    outside-row _ _ c.requires _ _ ∙ sym c.outside.ensures ∙ c.if-outside.false in
    simp (inside_here, ne_eqb c.args.r.op op_start (λ z. let l = c.if-r-lt-BARRIER.true in omega arith), ne_eqb c.args.r.op op_barrier (λ z. let l = c.if-r-lt-BARRIER.true in omega arith))

pub bounds-sizes-at : goal.bounds-sizes-at
bounds-sizes-at c =
    let inside_here : operands_outside (row_of c.args.r.op) c.args.r.register c.args.r.number ≡ false =
    outside-row _ _ c.requires _ _ ∙ sym c.outside.ensures ∙ c.if-outside.false in
    omega (arith, barrier-number c.args.r.op c.args.r.register c.args.r.number c.in-37.is inside_here)

pub returns-in-37 : goal.returns-in-37
returns-in-37 c =
    let inside_here : operands_outside (row_of c.args.r.op) c.args.r.register c.args.r.number ≡ false =
    outside-row _ _ c.requires _ _ ∙ sym c.outside.ensures ∙ c.if-outside.false in
    simp (inside_here, barrier-only c.args.r.op c.in-37.is, eq-eqb _ _ c.in-37.is, eq-eqb _ _ c.if-sizes-at-eq0.true)

pub returns-in_default : goal.returns-in_default
returns-in_default c =
    let inside_here : operands_outside (row_of c.args.r.op) c.args.r.register c.args.r.number ≡ false =
    outside-row _ _ c.requires _ _ ∙ sym c.outside.ensures ∙ c.if-outside.false in
    simp (inside_here, barrier-only c.args.r.op c.in-37.is, eq-eqb _ _ c.in-37.is, ne_eqb _ _ c.if-sizes-at-eq0.false)

pub returns-in_default-2 : goal.returns-in_default-2
returns-in_default-2 c =
    let inside_here : operands_outside (row_of c.args.r.op) c.args.r.register c.args.r.number ≡ false =
    outside-row _ _ c.requires _ _ ∙ sym c.outside.ensures ∙ c.if-outside.false in
    simp (inside_here, eq-eqb _ _ c.in-39.is, ne_eqb c.args.r.op op_barrier (λ z. omega (arith, z, c.in-39.is)), lt-leb _ _ c.if-n-at.false)

pub returns-in_default-3 : goal.returns-in_default-3
returns-in_default-3 c =
    let inside_here : operands_outside (row_of c.args.r.op) c.args.r.register c.args.r.number ≡ false =
    outside-row _ _ c.requires _ _ ∙ sym c.outside.ensures ∙ c.if-outside.false in
    simp (inside_here, ne_eqb c.args.r.op op_start (λ z. omega (arith, z, c.in_default)), ne_eqb c.args.r.op op_barrier (λ z. omega (arith, z, c.in_default)))
