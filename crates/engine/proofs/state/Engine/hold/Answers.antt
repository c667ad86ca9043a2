-- `hold`: the holder's step, from what its parts ensure.
use Prim.Native.Nat.{ℕ}
use native.Mathlib.Omega.{arith}
use mathlib.Core.Path.{refl, ap, ◌∙◌}
use Rattle.protocol.specs.Sum.{sum_of}
use Rattle.worker.specs.Private.{held_as}
use Rattle.worker.specs.declared.Moved.{Moved}
use Rattle.worker.specs.declared.Worker.{Worker}
use Rattle.engine.proofs.Here.{small, place-small, held-shown, moves-small}
use Rattle.engine.proofs.Holder.{deciding, rounds-fit, records-fit, head-below, list-below, next-below, shown}
use Rattle.engine.proofs.state.Engine.hold.Goals as goal

pub offset_bounds-self-w : goal.offset_bounds-self-w
offset_bounds-self-w c = omega (arith, small c.requires.1.here)

pub bounds-self-w : goal.bounds-self-w
bounds-self-w c = omega (arith, small c.requires.1.here)

pub offset_bounds-self-w-2 : goal.offset_bounds-self-w-2
offset_bounds-self-w-2 c = omega (arith, small c.requires.1.here)

pub bounds-self-w-2 : goal.bounds-self-w-2
bounds-self-w-2 c = omega (arith, small c.requires.1.here)

pub offset_bounds-self-w-3 : goal.offset_bounds-self-w-3
offset_bounds-self-w-3 c = omega (arith, small c.requires.1.here)

pub bounds-self-w-3 : goal.bounds-self-w-3
bounds-self-w-3 c = omega (arith, small c.requires.1.here)

pub worker-requires : goal.worker-requires
worker-requires c = small c.requires.1.here

pub decide-d-requires : goal.decide-d-requires
decide-d-requires c = deciding c.requires.1

pub synchronise-stepped-requires : goal.synchronise-stepped-requires
synchronise-stepped-requires c = omega (arith, place-small c.requires.1.here, ap (λ (v : Worker). v.place) c.worker.ensures)

pub settle_bytes-sum-requires : goal.settle_bytes-sum-requires
settle_bytes-sum-requires c =
    let p = c.requires.1.here in
    (p.refines.bytes.sizes, small p, p.refines.sum ∙ ap sum_of p.refines.bytes.shared)

pub record_step-records-requires : goal.record_step-records-requires
record_step-records-requires c =
    let q = deciding c.requires.1 in
    let k = records-fit c.requires.1 (c.decide-d.ensures _ (held-shown c.requires.1.here)) c.requires.0 in
    let z = c.requires.1.here.refines.log.size in
    (q.holding.holder, q.asked.operand, rounds-fit c.requires.1, omega arith)

pub turn_over-round-requires : goal.turn_over-round-requires
turn_over-round-requires c =
    let x = c.decide-d.ensures _ (held-shown c.requires.1.here) in
    (rw c.head.ensures (head-below c.decide-d.result.lists.list (list-below c.requires.1 x c.requires.0)), small c.requires.1.here, rounds-fit c.requires.1, next-below c.requires.1 x c.requires.0)

pub overflow_add-result : goal.overflow_add-result
overflow_add-result c =
    omega (arith, moves-small c.requires.1.here)

pub returns : goal.returns
returns c =
    record {
      synced =
          λ h.
          rw c.begun.ensures
          (shown h (c.decide-d.ensures _ (held-shown h.here)) c.requires.0
          (ap (λ (q : Moved ℕ). q.worker) c.synchronise-stepped.ensures ∙ ap (λ (v : Worker). held_as v c.decide-d.result.held) c.worker.ensures)
          c.settle_bytes-sum.ensures
          (ap (λ (q : Moved ℕ). q.outcome) c.synchronise-stepped.ensures)
          c.record_step-records.ensures.0
          c.record_step-records.ensures.1
          c.turn_over-round.result
          c.turn_over-round.new.can
          (rw c.head.ensures at c.turn_over-round.ensures)
          (omega arith)
          (omega arith));
      same_registers = refl;
    }
