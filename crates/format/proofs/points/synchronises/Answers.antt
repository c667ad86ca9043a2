-- `format::points::synchronises` meets its contract: each op of the table computes, and bytes that name no op go by their number.
use Prim.Native.Nat.{ℕ, suc, ◌<◌}
use mathlib.Core.Path.{◌≡◌, sym, ap, ◌∙◌}
use native.Mathlib.Omega.{arith}
use borrow.Author.Tests.{le-leb, lt-leb}
use Rattle.protocol.specs.Ops.{syncs_from}
use Rattle.protocol.specs.Format.{row_in, synchronises}
use Rattle.protocol.proofs.Points.{by_number}
use Rattle.format.proofs.points.synchronises.Goals as goal

-- a bound falls by a number that has had its case
lower : {k n : ℕ} → n < suc k → (n ≡ k → ⊥) → n < k
lower h other = omega arith

pub returns-then-op-ge-ABOVE : goal.returns-then-op-ge-ABOVE
returns-then-op-ge-ABOVE c = let op = c.args.op in sym (by_number op ∙ le-leb syncs_from op (omega (arith, c.if-op-ge-ABOVE.true)))

pub returns-in-16 : goal.returns-in-16
unfolding synchronises row_in
returns-in-16 c = sym (ap synchronises c.in-16.is)

pub returns-in-17 : goal.returns-in-17
unfolding synchronises row_in
returns-in-17 c = sym (ap synchronises c.in-17.is)

pub returns-in-18 : goal.returns-in-18
unfolding synchronises row_in
returns-in-18 c = sym (ap synchronises c.in-18.is)

pub returns-in-19 : goal.returns-in-19
unfolding synchronises row_in
returns-in-19 c = sym (ap synchronises c.in-19.is)

pub returns-in-20 : goal.returns-in-20
unfolding synchronises row_in
returns-in-20 c = sym (ap synchronises c.in-20.is)

pub returns-in-21 : goal.returns-in-21
unfolding synchronises row_in
returns-in-21 c = sym (ap synchronises c.in-21.is)

pub returns-in-22 : goal.returns-in-22
unfolding synchronises row_in
returns-in-22 c = sym (ap synchronises c.in-22.is)

pub returns-in-32 : goal.returns-in-32
unfolding synchronises row_in
returns-in-32 c = sym (ap synchronises c.in-32.is)

pub returns-in-33 : goal.returns-in-33
unfolding synchronises row_in
returns-in-33 c = sym (ap synchronises c.in-33.is)

pub returns-in-34 : goal.returns-in-34
unfolding synchronises row_in
returns-in-34 c = sym (ap synchronises c.in-34.is)

pub returns-in-35 : goal.returns-in-35
unfolding synchronises row_in
returns-in-35 c = sym (ap synchronises c.in-35.is)

pub returns-in-36 : goal.returns-in-36
unfolding synchronises row_in
returns-in-36 c = sym (ap synchronises c.in-36.is)

pub returns-in-37 : goal.returns-in-37
unfolding synchronises row_in
returns-in-37 c = sym (ap synchronises c.in-37.is)

pub returns-in-38 : goal.returns-in-38
unfolding synchronises row_in
returns-in-38 c = sym (ap synchronises c.in-38.is)

pub returns-in-39 : goal.returns-in-39
unfolding synchronises row_in
returns-in-39 c = sym (ap synchronises c.in-39.is)

pub returns-in_default : goal.returns-in_default
returns-in_default c =
    let r = c.in_default.in_default-own.rest in
    let op = c.args.op in
    let below = lower (lower (lower (lower c.if-op-ge-ABOVE.false r.1) r.0.1) r.0.0.1) r.0.0.0.1 in
    let least = lower (lower (lower (lower below r.0.0.0.0.1) r.0.0.0.0.0.1) r.0.0.0.0.0.0.1) r.0.0.0.0.0.0.0.1 in
    sym (by_number op ∙ lt-leb syncs_from op least)
