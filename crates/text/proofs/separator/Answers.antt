-- `separator`: by whether a number is left.
use mathlib.Core.Path.{sym, ap}
use lib.Seq.{drop-cons}
use Rattle.protocol.specs.Listing.{separator}
use Rattle.text.proofs.separator.Goals as goal

pub returns-then-next-numbers : goal.returns-then-next-numbers
returns-then-next-numbers c = sym (ap separator (drop-cons _ _ 0 c.if-next-numbers.true))
