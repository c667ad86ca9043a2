-- `plan::skips::check_skips` meets its contract: what is left of the test is the same at each record.
use native.Mathlib.Omega.{arith}
use Prim.Native.Nat.{ℕ, ◌-◌, ◌<◌, ◌≤◌}
use mathlib.Core.Bool.{true, false}
use mathlib.Core.Path.{◌≡◌, ap, ◌∙◌, sym, subst⁻¹}
use lib.ListN.{length}
use Rattle.protocol.specs.Format.{records_from, is_skip, workers_limit}
use Rattle.protocol.specs.Refusals.{check_skips}
use Rattle.plan.specs.Answer.{body_of}
use Rattle.plan.specs.Reading.{file_of}
use Rattle.plan.specs.Skipping.{too_far}
use Rattle.plan.proofs.Recorded.{file_of-record}
use Rattle.plan.proofs.Readings.{Body}
use Rattle.plan.proofs.Skipped.{worker-below, skips-next}
use Rattle.plan.proofs.skips.check_skips.Goals as goal

none_left_over : (count i : ℕ) → count ≤ i → count - i ≡ 0
none_left_over count i h = omega arith

pub too_far-requires-clause-worker_lt_workers_limit : goal.too_far-requires-clause-worker_lt_workers_limit
too_far-requires-clause-worker_lt_workers_limit c =
    let a = c.args in
    let i = c.loop-i.i in
    let inv = c.loop-i.invariant in λ e.
    let same = c.body.ensures ∙ ap body_of (sym (file_of-record a.records.now i)) in
    subst⁻¹ (λ (r : Body). r.worker < workers_limit) same
    (worker-below (file_of a.records.now) (length a.records.now) a.firsts.now c.requires.skip_checking i c.loop-i-test.true (ap (λ (r : Body). is_skip r.op) (sym same) ∙ e))

pub returns-then-too_far : goal.returns-then-too_far
returns-then-too_far c =
    let a = c.args in
    let i = c.loop-i.i in
    let inv = c.loop-i.invariant in
    let same = c.body.ensures ∙ ap body_of (sym (file_of-record a.records.now i)) in
    let test = sym (c.too_far.ensures ∙ ap (λ (r : Body). too_far a.firsts.now i r) same) in
    let next = skips-next (file_of a.records.now) (length a.records.now) a.firsts.now c.requires.skip_checking i c.loop-i-test.true in
    rw c.at.ensures (sym (next true (test ∙ c.if-too_far.true)) ∙ inv.1)

pub loop-i-preserved : goal.loop-i-preserved
loop-i-preserved c =
    let a = c.args in
    let i = c.loop-i.i in
    let inv = c.loop-i.invariant in
    let same = c.body.ensures ∙ ap body_of (sym (file_of-record a.records.now i)) in
    let test = sym (c.too_far.ensures ∙ ap (λ (r : Body). too_far a.firsts.now i r) same) in
    let next = skips-next (file_of a.records.now) (length a.records.now) a.firsts.now c.requires.skip_checking i c.loop-i-test.true in
    (omega arith, sym (next false (test ∙ c.if-too_far.false)) ∙ inv.1)

pub returns : goal.returns
unfolding check_skips records_from
returns c =
    let a = c.args in
    let i = c.loop-i.i in
    let inv = c.loop-i.invariant in
    sym (sym inv.1 ∙ ap (λ (k : ℕ). check_skips i (records_from (file_of a.records.now) k i)) (none_left_over (length a.records.now) i c.loop-i-test.false))
