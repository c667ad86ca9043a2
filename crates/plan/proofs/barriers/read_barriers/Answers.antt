-- `plan::barriers::read_barriers` meets its contract: what is left of the check is the same at each record, and the sizes are those so far.
use Rattle.std.proofs.Common.{arith, ◌≡◌, refl, sym, ap, ◌∙◌, Bool, Some}
use Rattle.protocol.specs.Refusals.{bad_barrier, refuse_if, holds}
use Rattle.plan.specs.Answer.{decoded_of}
use Rattle.plan.specs.Reading.{file_of, file_record}
use Rattle.plan.proofs.Recorded.{decoded-at}
use Rattle.plan.proofs.Readings.{verdict-step, no-barrier-record, unmarked-rule, barrier-rule, barrier-more, barriers-first}
use Rattle.plan.proofs.barriers.read_barriers.Goals as goal

pub loop-i-init : goal.loop-i-init
loop-i-init c = (omega arith, c.requires.some_records, barriers-first (file_of c.args.records.now) c.requires.rules_hold, refl)

pub returns-in_default : goal.returns-in_default
returns-in_default c =
    let inv = c.loop-i.invariant in
    rw c.at.ensures
    (record {
      least = inv.0;
      most = c.loop-i-test.true;
      verdict = sym inv.3 ∙ verdict-step _ _ _ c.loop-i-test.true (unmarked-rule _ _ (decoded-at _ _ (sym c.decode.ensures ∙ c.in_default.is)));
      sizes = c.loop-i.sizes;
      head = inv.2.so_far;
      no_sleeper = inv.2.no_sleeper;
    })

pub returns-then-r-ne-BARRIER_RECORD : goal.returns-then-r-ne-BARRIER_RECORD
returns-then-r-ne-BARRIER_RECORD c =
    let inv = c.loop-i.invariant in
    let decoded_here : decoded_of (file_record (file_of c.args.records.now) c.loop-i.i) ≡ Some c.in-Some.r =
    decoded-at _ _ (sym c.decode.ensures ∙ c.in-Some.is) in
    record {
      least = inv.0;
      most = inv.1;
      verdict = inv.3;
      head = inv.2.so_far;
      no_sleeper = inv.2.no_sleeper;
      no_barrier = λ h. no-barrier-record (file_record (file_of c.args.records.now) c.loop-i.i) decoded_here c.if-r-ne-BARRIER_RECORD.true;
    }

pub returns-then-bad_barrier : goal.returns-then-bad_barrier
returns-then-bad_barrier c =
    let inv = c.loop-i.invariant in
    let decoded_here : decoded_of (file_record (file_of c.args.records.now) c.loop-i.i) ≡ Some c.in-Some.r =
    decoded-at _ _ (sym c.decode.ensures ∙ c.in-Some.is) in
    rw c.at-then-bad_barrier.ensures
    (record {
      least = inv.0;
      most = c.loop-i-test.true;
      verdict =
          sym inv.3
          ∙ verdict-step _ _ _ c.loop-i-test.true
          (barrier-rule inv.0 inv.2 decoded_here c.if-r-ne-BARRIER_RECORD.false
          ∙ ap (λ (t : Bool). refuse_if t bad_barrier holds) (sym c.bad_barrier.ensures ∙ c.if-bad_barrier.true));
      sizes = c.loop-i.sizes;
      head = inv.2.so_far;
      no_sleeper = inv.2.no_sleeper;
    })

pub loop-i-preserved : goal.loop-i-preserved
loop-i-preserved c =
    let inv = c.loop-i.invariant in
    let decoded_here : decoded_of (file_record (file_of c.args.records.now) c.loop-i.i) ≡ Some c.in-Some.r =
    decoded-at _ _ (sym c.decode.ensures ∙ c.in-Some.is) in
    let fine = sym c.bad_barrier.ensures ∙ c.if-bad_barrier.false in (
      omega arith,
      omega (arith, c.loop-i-test.true),
      barrier-more inv.0 inv.2 decoded_here c.if-r-ne-BARRIER_RECORD.false fine,
      sym (verdict-step _ _ _ c.loop-i-test.true
          (barrier-rule inv.0 inv.2 decoded_here c.if-r-ne-BARRIER_RECORD.false ∙ ap (λ (t : Bool). refuse_if t bad_barrier holds) fine))
          ∙ inv.3,
    )
