use Rattle.std.proofs.Common.{◌≡◌, ◌≤◌, eqb, get_or}
use Rattle.protocol.specs.Format.{up_to}
use Rattle.protocol.specs.Rounds.{keep}
use Rattle.queue.proofs.Queue.among.Given as goal

abbrev pub invariant-loop-i : goal.invariant-loop-i
invariant-loop-i l = (l.q ≡ keep (λ w. eqb (get_or l.entries w 0) l.entry) (up_to l.i)) × (l.i ≤ l.n)
