use Rattle.std.proofs.Common.{arith}
use Rattle.decisions.proofs.lists.next_after.Goals as goal

pub push-joined-requires : goal.push-joined-requires
push-joined-requires c = (omega (arith, c.requires), omega (arith, c.requires.1 _ c.in-Starts.is))
