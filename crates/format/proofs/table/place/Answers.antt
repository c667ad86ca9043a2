-- `format::table::place` meets its contract: each run of ops by one test over it.
use Rattle.std.proofs.Common.{arith, ◌+◌, ◌-◌, refl, Some, None}
use Rattle.protocol.specs.Format.{table, count_from}
use Rattle.format.specs.Table.{place_in}
use Rattle.format.proofs.Rows.{on-run}
use Rattle.format.proofs.table.place.Goals as goal

pub returns-in-16-to-22 : goal.returns-in-16-to-22
unfolding place_in count_from
returns-in-16-to-22 c = on-run (λ k. Some (k - 16)) (place_in table) None 16 7 refl _ (omega arith) (omega arith)

pub returns-in-32-to-39 : goal.returns-in-32-to-39
unfolding place_in count_from
returns-in-32-to-39 c = on-run (λ k. Some (k - 32 + 7)) (place_in table) None 32 8 refl _ (omega arith) (omega arith)

pub returns-in_default : goal.returns-in_default
unfolding place_in count_from
returns-in_default c = on-run (λ k. None) (place_in table) None 0 16 refl c.args.op (omega arith) (omega arith)

pub returns-in_default-2 : goal.returns-in_default-2
unfolding place_in count_from
returns-in_default-2 c = on-run (λ k. None) (place_in table) None 23 9 refl c.args.op (omega arith) (omega arith)

pub returns-in_default-3 : goal.returns-in_default-3
unfolding place_in count_from
returns-in_default-3 c = on-run (λ k. None) (place_in table) None 40 216 refl c.args.op (omega arith) (omega arith)
