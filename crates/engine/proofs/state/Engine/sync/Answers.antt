-- `sync`: an arrival, or the holder's step.
use native.Mathlib.Omega.{arith}
use mathlib.Core.Path.{refl}
use Rattle.engine.proofs.Here.{small, moves-small, list-some, first_small, sync-here}
use Rattle.engine.proofs.ArriveSimulates.{arrive-simulates}
use Rattle.engine.proofs.state.Engine.sync.Goals as goal

pub arrive-away-requires : goal.arrive-away-requires
arrive-away-requires c =
    let a = c.requires.here in
    (rw c.first.ensures.value (first_small a), small a, c.if-t-gt0.true)

pub first-requires : goal.first-requires
first-requires c = list-some c.requires.here

pub overflow_add-result : goal.overflow_add-result
overflow_add-result c = omega (arith, moves-small c.requires.here)

pub returns-then-t-gt0 : goal.returns-then-t-gt0
returns-then-t-gt0 c =
    record {
      synced =
          λ h.
          arrive-simulates h.here (sync-here h.here h.fetched h.syncs) c.if-t-gt0.true c.arrive-away.ensures.0
          (rw c.first.ensures.value at c.arrive-away.ensures.1);
      same_registers = refl;
    }
