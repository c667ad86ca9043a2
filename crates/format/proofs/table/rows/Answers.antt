-- `format::table::rows` meets its contract, the one rule over the rows: the code's rows are the table's, by one computed test.
use mathlib.Core.Path.{refl}
use Rattle.format.specs.Table.{limits}
use Rattle.format.proofs.table.rows.Goals as goal

pub returns : goal.returns
unfolding limits
returns c = refl
