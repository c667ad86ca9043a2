use Rattle.std.proofs.Common.{◌≡◌, length}
use Rattle.plan.specs.Reading.{file_of, verdict_from}
use Rattle.plan.proofs.Slept.{SleepersAt}
use Rattle.plan.proofs.sleepers.read_sleepers.Given as goal

abbrev pub invariant-loop-i : goal.invariant-loop-i
invariant-loop-i l = SleepersAt (file_of l.records) (length l.records) l.n l.start l.i l.low l.fates
    × (verdict_from (file_of l.records) (length l.records) l.i ≡ verdict_from (file_of l.records) (length l.records) l.start)
