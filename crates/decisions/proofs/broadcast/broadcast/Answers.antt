use Rattle.std.proofs.Common.{length, length-append, ap, arith}
use Rattle.queue.proofs.Laws.{length_rest}
use Rattle.decisions.proofs.Broadcasts.{few-woken, gives_up, runs_on_with_locks}
use Rattle.decisions.proofs.broadcast.broadcast.Goals as goal
use Rattle.decisions.proofs.broadcast.broadcast.Goals.{then-held-eq0, else-held-eq0}

pub append-behind-requires : goal.append-behind-requires
append-behind-requires c =
    let p = c.requires in
    omega (arith, few-woken c.rouse-roused.ensures, ap length c.rest.ensures, length_rest c.args.lists.list p.first, p.total)

pub cons-requires : goal.cons-requires
cons-requires c =
    let p = c.requires in (
      omega (
        arith,
        few-woken c.rouse-roused.ensures,
        ap length c.rest.ensures,
        length_rest c.args.lists.list p.first,
        p.total,
        ap length c.append-behind.ensures,
        length-append c.rouse-roused.result.woken c.rest.result,
      ),
      omega (arith, p.holder),
    )

pub returns : goal.returns
returns c = λ locks z.
    let roused = rw (c.code-code.ensures, c.from.ensures) at c.rouse-roused.ensures in
    elim c.if-held-eq0.branch [
      | then-held-eq0 w ↦
          rw (w.after-is, w.push.ensures, c.append-behind.ensures, c.rest.ensures, c.count-outcome.ensures.value)
          (gives_up c.args.condition c.requires roused (omega (arith, w.if-held-eq0.true)) locks z)
      | else-held-eq0 w ↦
          rw (w.after-is, w.cons.ensures, c.append-behind.ensures, c.rest.ensures, c.count-outcome.ensures.value)
          (runs_on_with_locks c.args.condition c.requires roused (λ e. omega (arith, e, w.if-held-eq0.false)) locks z)
    ]
