-- `plan::decode::body` meets its contract: each byte is the definition's.
use Rattle.protocol.specs.Format.{record_from}
use Rattle.plan.proofs.decode.body.Goals as goal

pub returns : goal.returns
unfolding record_from
returns c = rw c.word.ensures
