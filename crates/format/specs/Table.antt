-- The code's rows as the paper's table has them, and where the row of an op stands.
use Rattle.std.specs.Prelude.{ℕ, suc, cond, List, [], ◌∷◌, map, eqb, Option, Some, None, option_map}
use Rattle.std.proofs.Math.Option.{none, some}
use Rattle.std.proofs.Math.Option as math
use Rattle.protocol.specs.Format as format
use Rattle.protocol.specs.Format.{table, row_of}
use Rattle.format.specs.declared.table.Row.{Row}

-- a row without its step
abbrev pub limits_of : format.Row → Row
limits_of x = record { op = x.op; registers = x.registers; least = x.least; most = x.most }

-- what the code's table has to hold
unfoldable pub limits : List Row
limits = map limits_of table

abbrev pub limits_in : math.Option format.Row → Option Row
limits_in none = None
limits_in (some x) = Some (limits_of x)

-- the limits of an op's operands, if it has a row
abbrev pub limits_for : ℕ → Option Row
limits_for o = limits_in (row_of o)

-- where the row of an op stands in a table, if it has one
unfoldable pub place_in : List format.Row → ℕ → Option ℕ
place_in [] o = None
place_in (x ∷ xs) o = cond (eqb x.op o) (Some 0) (option_map suc (place_in xs o))
