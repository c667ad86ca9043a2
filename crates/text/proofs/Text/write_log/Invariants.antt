use Rattle.std.proofs.Common.{◌*◌}
use Rattle.protocol.specs.Listing.{log_lines}
use Rattle.text.specs.Text.{record_line_limit, WroteWithin, entries_from}
use Rattle.text.proofs.Text.write_log.Given as goal

abbrev pub invariant-loop-entry : goal.invariant-loop-entry
invariant-loop-entry l = WroteWithin (record_line_limit * l.entry-index) l.initial.self (log_lines (entries_from l.log l.entry-index 0)) l.self
