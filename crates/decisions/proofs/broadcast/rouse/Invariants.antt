use Rattle.decisions.proofs.Rousing.{Rouses}
use Rattle.decisions.proofs.broadcast.rouse.Given as goal

abbrev pub invariant-loop-v : goal.invariant-loop-v
invariant-loop-v l = Rouses l.initial.fates l.code l.initial.v-iterator l.fates l.v-iterator l.woken l.left
