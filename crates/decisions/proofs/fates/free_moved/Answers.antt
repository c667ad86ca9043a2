use Rattle.std.proofs.Common.{arith, ◌<◌, inl, inr}
use Rattle.decisions.proofs.Moving.{woken-moved, started-moved}
use Rattle.decisions.proofs.fates.free_moved.Goals as goal

pub offset_bounds-fates-w : goal.offset_bounds-fates-w
offset_bounds-fates-w c =
    let below : c.in-Wakes.w < 8 = elim c.in-Wakes.is [ inl e ↦ woken-moved e c.requires | inr e ↦ started-moved e c.requires ] in
    omega (arith, below)

pub bounds-fates-w : goal.bounds-fates-w
bounds-fates-w c = elim c.in-Wakes.is [ inl e ↦ woken-moved e c.requires | inr e ↦ started-moved e c.requires ]
