use Rattle.std.proofs.Common.{◌≡◌, ℕ, ◌∷◌, ◌++◌, length, length-append, drop, ap, arith, inl, inr}
use Rattle.queue.proofs.Laws.{length_rest}
use Rattle.rules.specs.Rules.{woken_of}
use Rattle.decisions.proofs.lists.list_after.Goals as goal
use Rattle.decisions.proofs.lists.list_after.Goals.{in-Wakes, in-Nobody}

pub cons-behind-requires : goal.cons-behind-requires
cons-behind-requires c = (
  omega (arith, ap length c.rest-rest.ensures, length_rest c.args.list c.requires.held, c.requires.fits),
  omega (arith, c.requires.woken _ c.in-Wakes.is),
)

pub cons-requires : goal.cons-requires
cons-requires c =
    let front : c.match-moves.behind ≡ woken_of c.args.moves ++ drop 1 c.args.list =
    elim c.match-moves.branch [
      | in-Wakes w ↦
          let front = ap (λ (k : ℕ). k ∷ drop 1 c.args.list) (omega (arith, c.requires.woken _ w.in-Wakes.is)) in
          rw (w.behind-is, w.cons-behind.ensures, c.rest-rest.ensures, w.in-Wakes.is) front
      | in-Nobody w ↦ elim w.in-Nobody.is [
        | inl e ↦ rw (w.behind-is, c.rest-rest.ensures, e)
        | inr other ↦ elim other [ inl e ↦ rw (w.behind-is, c.rest-rest.ensures, e.1) | inr e ↦ rw (w.behind-is, c.rest-rest.ensures, e.1) ]
      ]
    ] in (
      omega (arith, ap length front, length-append (woken_of c.args.moves) (drop 1 c.args.list), length_rest c.args.list c.requires.held, c.requires.fits),
      c.requires.holder,
    )
