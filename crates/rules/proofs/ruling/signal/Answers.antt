use Rattle.std.proofs.Common.{refl, sym, ◌∙◌}
use Rattle.rules.proofs.Rulings.{calm, woken-coherent}
use Rattle.rules.proofs.ruling.signal.Goals as goal

pub returns-then-is_empty-clause-sound : goal.returns-then-is_empty-clause-sound
returns-then-is_empty-clause-sound c = rw c.committed.ensures (calm refl)

pub returns-clause-sound : goal.returns-clause-sound
returns-clause-sound c = woken-coherent _ c.requires c.select-queued.ensures (sym c.is_empty.ensures ∙ c.if-is_empty.false) c.first-first.ensures.value
