-- `format::table::row_of` meets its contract: the row stands at the op's place in what `rows` lends.
use Rattle.std.proofs.Common.{arith, sym, ◌∙◌}
use Rattle.format.proofs.Rows.{no_row, row_at, place_inside}
use Rattle.format.proofs.table.row_of.Goals as goal

pub returns-in_err-at : goal.returns-in_err-at
returns-in_err-at c = rw c.from_residual.ensures (sym (no_row c.args.op (sym c.place.ensures ∙ c.in_err-at.was)))

pub offset_bounds-rows-at : goal.offset_bounds-rows-at
offset_bounds-rows-at c = omega (arith, place_inside c.args.op c.in_ok-at.at (sym c.place.ensures ∙ c.in_ok-at.was))

pub bounds-rows-at : goal.bounds-rows-at
bounds-rows-at c = place_inside c.args.op c.in_ok-at.at (sym c.place.ensures ∙ c.in_ok-at.was)

pub returns : goal.returns
returns c = rw c.rows.ensures (sym (row_at c.args.op c.in_ok-at.at (record { op = 0; registers = 0; least = 0; most = 0 }) (sym c.place.ensures ∙ c.in_ok-at.was)))
