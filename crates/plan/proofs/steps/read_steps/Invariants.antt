use Rattle.std.proofs.Common.{◌-◌, ◌≤◌, ◌≡◌, length}
use Rattle.protocol.specs.Format.{sleepers_in}
use Rattle.plan.specs.Reading.{file_of, before, verdict_from}
use Rattle.plan.proofs.Stepped.{StepsKept}
use Rattle.plan.proofs.steps.read_steps.Given as goal

abbrev pub invariant-loop-i : goal.invariant-loop-i
invariant-loop-i l = (l.i ≤ length l.records) × (l.opened ≤ l.n) × (l.opened ≡ 0 → l.i ≡ l.start)
    × StepsKept (file_of l.records) l.i l.n l.sizes (sleepers_in (before (file_of l.records) l.start)) l.opened l.firsts
    × (verdict_from (file_of l.records) (length l.records) l.i ≡ verdict_from (file_of l.records) (length l.records) l.start)

abbrev pub decreases-loop-i : goal.decreases-loop-i
decreases-loop-i l = length l.records - l.i
