use Rattle.std.proofs.Common.{eqb, get_or, inl, inr}
use Rattle.decisions.proofs.Moving.{keep_all, without-kept, without-other}
use Rattle.decisions.proofs.lists.stay.Goals as goal

pub returns-in-Joins : goal.returns-in-Joins
returns-in-Joins c =
    rw (c.reject.ensures, c.in-Joins.is, c.requires.all _ c.in-Joins.is, without-kept (λ w. eqb (get_or c.args.fates.now w 0) c.args.code) c.args.waiting)

pub returns-in-Nobody : goal.returns-in-Nobody
returns-in-Nobody c =
    elim c.in-Nobody.is [
      | inl e ↦ rw (e, keep_all)
      | inr e ↦ rw (e.1, without-other e.0 c.args.waiting (c.requires.away e.0 e.1))
    ]
