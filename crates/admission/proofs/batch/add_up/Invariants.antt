use Rattle.std.proofs.Common.{◌*◌, ◌≤◌, ◌≡◌}
use Rattle.protocol.specs.Batch.{begins_at}
use Rattle.admission.proofs.batch.add_up.Given as goal

abbrev pub invariant-loop-bytes : goal.invariant-loop-bytes
invariant-loop-bytes l = (l.sum ≡ begins_at l.lengths l.bytes-index) × (l.sum ≤ 4294967295 * l.bytes-index)
