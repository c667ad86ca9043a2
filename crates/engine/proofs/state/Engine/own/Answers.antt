-- `own`: turns that pass or make an own step.
use native.Mathlib.Omega.{arith}
use mathlib.Core.Path.{◌≡◌, ◌∙◌, sym, refl}
use Rattle.protocol.specs.Format.{synchronises}
use Rattle.engine.proofs.Here.{small, fetch-fits, own-fits}
use Rattle.engine.proofs.OwnTurns.{moves-small, passes, here, moves-on}
use Rattle.engine.proofs.state.Engine.own.Goals as goal

pub fetch-r-requires : goal.fetch-r-requires
fetch-r-requires c =
    fetch-fits (here c.loop-i.invariant.0 c.loop-i-test.true (λ fates log. c.if-self-w.true) c.requires)

pub own_move-after-requires : goal.own_move-after-requires
own_move-after-requires c =
    let listed_here : synchronises c.fetch-r.result.op ≡ c.synchronises.result =
    sym c.synchronises.ensures in
    let h = here c.loop-i.invariant.0 c.loop-i-test.true (λ fates log. c.if-self-w.true) c.requires in
    (h.refines.bytes.sizes, small h, rw c.worker.ensures (own-fits h c.fetch-r.ensures (listed_here ∙ c.if-synchronises.false)))

pub overflow_add-moves : goal.overflow_add-moves
overflow_add-moves c =
    omega (arith, moves-small c.loop-i.invariant.0 c.requires)

pub loop-i-preserved-then-self-w : goal.loop-i-preserved-then-self-w
loop-i-preserved-then-self-w c =
    let listed_here : synchronises c.fetch-r.result.op ≡ c.synchronises.result =
    sym c.synchronises.ensures in (
      moves-on c.loop-i.invariant.0 c.loop-i-test.true (λ fates log. c.if-self-w.true)
          (λ fates log. (c.fetch-r.ensures, rw c.worker.ensures at c.own_move-after.ensures)) (listed_here ∙ c.if-synchronises.false) (omega arith),
      c.loop-i.invariant.1,
      c.loop-i.invariant.2,
      c.loop-i.invariant.3,
    )

pub loop-i-preserved : goal.loop-i-preserved
loop-i-preserved c = (passes c.loop-i.invariant.0 (λ fates log. refl) c.if-self-w.false c.pass_over-i.ensures, c.loop-i.invariant.1, c.loop-i.invariant.2, c.loop-i.invariant.3)
