-- `with`: the lock's weight is added.
use native.Mathlib.Omega.{arith}
use Rattle.locks.proofs.Sets.{shows_by, more, mark-shifted}
use Rattle.locks.proofs.with.Goals as goal

pub returns : goal.returns
returns c = λ locks s m. shows_by (more c.args.lock c.requires.0 s m) (omega (arith, mark-shifted c.args.lock c.requires.0))
