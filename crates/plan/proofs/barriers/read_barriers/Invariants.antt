use Rattle.std.proofs.Common.{◌≡◌, ◌≤◌, length}
use Rattle.plan.specs.Reading.{file_of, verdict_from}
use Rattle.plan.proofs.Readings.{BarriersAt}
use Rattle.plan.proofs.barriers.read_barriers.Given as goal

abbrev pub invariant-loop-i : goal.invariant-loop-i
invariant-loop-i l = (1 ≤ l.i) × (l.i ≤ length l.records) × BarriersAt (file_of l.records) l.i l.low l.sizes
    × (verdict_from (file_of l.records) (length l.records) l.i ≡ verdict_from (file_of l.records) (length l.records) 1)
