use Rattle.std.proofs.Common.{◌≡◌, ◌*◌, ◌≤◌}
use Rattle.vectors.specs.Sum.{weighed}
use Rattle.vectors.proofs.memory.memory_sum.Given as goal

abbrev pub invariant-loop-address : goal.invariant-loop-address
invariant-loop-address l = (l.sum ≤ 522240 * l.address) × (l.sum ≡ weighed l.memory l.address)
