use Rattle.plan.specs.Reading.{file_of}
use Rattle.plan.specs.Stepping.{StretchRead}
use Rattle.plan.proofs.steps.read_stretch.Given as goal

abbrev pub invariant-loop-i : goal.invariant-loop-i
invariant-loop-i l = StretchRead (file_of l.records) l.n l.sizes l.worker l.from l.end l.i
