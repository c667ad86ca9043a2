-- `without`: the lock's weight is taken away.
use native.Mathlib.Omega.{arith}
use Rattle.locks.proofs.Sets.{shows_by, less, enough, mark-shifted}
use Rattle.locks.proofs.without.Goals as goal

pub overflow_sub-result : goal.overflow_sub-result
overflow_sub-result c = omega (arith, mark-shifted c.args.lock c.requires.known, enough c.args.lock c.requires.known c.requires.shown c.requires.here)

pub overflow_sub-result-2 : goal.overflow_sub-result-2
overflow_sub-result-2 c = omega (arith, mark-shifted c.args.lock c.requires.known, enough c.args.lock c.requires.known c.requires.shown c.requires.here)

pub returns : goal.returns
returns c = λ locks s m. shows_by (less c.args.lock c.requires.known s m) (omega (arith, mark-shifted c.args.lock c.requires.known))
