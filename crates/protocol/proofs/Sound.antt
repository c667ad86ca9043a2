-- What the theorems ask of a plan. Every accepted file holds such a plan.
use Prim.Native.Nat.{ℕ, ◌+◌, ◌≤◌}
use mathlib.Core.Path.{◌≡◌}
use lib.ListN.{length}
use Rattle.protocol.specs.Format.{own, skip_zero, skip_nonzero, Plan, workers_limit, steps_limit}
use Rattle.protocol.specs.Steps.{steps_of, step_at}
use Rattle.protocol.specs.Turns.{workers_of}

pub record Sound (plan : Plan) : Type 0 where
  pub workers : workers_of plan ≤ workers_limit
  pub lengths : (w : ℕ) → length (steps_of plan w) ≤ steps_limit
  pub skips_zero : (w k r j : ℕ) → step_at plan w k ≡ own (skip_zero r j) → k + 1 + j ≤ length (steps_of plan w)
  pub skips_nonzero : (w k r j : ℕ) → step_at plan w k ≡ own (skip_nonzero r j) → k + 1 + j ≤ length (steps_of plan w)
