use Rattle.std.proofs.Common.{sym, ◌∙◌, arith}
use borrow.Author.Rules.{rules}
use Rattle.protocol.specs.Format.{by_name}
use Rattle.protocol.specs.Rounds.{remove}
use Rattle.protocol.proofs.Bools.{not-false}
use Rattle.protocol.proofs.Locks.{unlocked-fewer}
use Rattle.locks.proofs.Sets.{shows_by}
use Rattle.rules.proofs.ruling.unlock.Goals as goal

pub overflow_cast-result : goal.overflow_cast-result
overflow_cast-result c =
    let held = c.requires.1 in
    let k = c.args.k in
    let here = sym (c.holds.ensures held.locks held.shown) ∙ not-false _ (search rules) in
    let left = shows_by (c.without-left.ensures held.locks held.shown here) (omega arith) in
    omega (arith, c.count.ensures (remove k held.locks) left, unlocked-fewer by_name k held.locks, held.few)
