-- `first_round`: the list of those who are awake, and their marks.
use Rattle.std.proofs.Common.{arith}
use Rattle.engine.proofs.Playing.{awake-below}
use Rattle.engine.proofs.state.Engine.first_round.Goals as goal

pub set_all-requires : goal.set_all-requires
set_all-requires c = (omega arith, awake-below c.args.self.now.fates c.requires.0 c.among-list.ensures)
