-- `holds`: the digit at the lock's place says whether it is held.
use Rattle.locks.proofs.Sets.{mark-held}
use Rattle.locks.proofs.holds.Goals as goal

pub returns : goal.returns
returns c = λ locks s. mark-held c.args.lock locks c.requires s
