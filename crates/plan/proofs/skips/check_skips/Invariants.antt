use Rattle.std.proofs.Common.{◌-◌, ◌≡◌, ◌≤◌, length}
use Rattle.protocol.specs.Format.{records_from}
use Rattle.protocol.specs.Refusals.{check_skips}
use Rattle.plan.specs.Reading.{file_of, before}
use Rattle.plan.proofs.skips.check_skips.Given as goal

abbrev pub invariant-loop-i : goal.invariant-loop-i
invariant-loop-i l = (l.i ≤ length l.records) × (check_skips l.i (records_from (file_of l.records) (length l.records - l.i) l.i) ≡ check_skips 0 (before (file_of l.records) (length l.records)))
