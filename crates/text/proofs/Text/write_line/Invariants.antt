use Rattle.std.proofs.Common.{drop}
use Rattle.protocol.specs.Listing.{line}
use Rattle.text.proofs.Writing.{Remains}
use Rattle.text.proofs.Text.write_line.Given as goal

abbrev pub invariant-loop-i : goal.invariant-loop-i
invariant-loop-i l = Remains l.initial.self (line l.numbers) l.self (line (drop l.i l.numbers))
