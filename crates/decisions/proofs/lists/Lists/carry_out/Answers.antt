use Rattle.std.proofs.Common.{length, length-append, ap, arith}
use mathlib.Core.Bool.{not}
use Rattle.protocol.specs.Rounds.{member}
use Rattle.queue.proofs.Picked.{length-keep}
use Rattle.rules.specs.Rules.{woken_of, joined_of, moved_of}
use Rattle.decisions.proofs.lists.Lists.carry_out.Goals as goal

pub list_after-requires : goal.list_after-requires
list_after-requires c =
    let m = c.args.r.now.moves in
    record {
      holder = omega (arith, c.requires.holder);
      held = c.requires.held;
      fits = omega (arith, c.requires.room, length-append (woken_of m) (joined_of m));
      woken = c.requires.woken;
    }

pub next_after-requires : goal.next_after-requires
next_after-requires c =
    let m = c.args.r.now.moves in
    (omega (arith, c.requires.room, c.requires.held, length-append (woken_of m) (joined_of m)), c.requires.started, omega (arith, c.requires.holder))

pub wait_last-requires : goal.wait_last-requires
wait_last-requires c = (
  omega (
    arith,
    ap length c.stay.ensures,
    length-keep (λ w. not (member w (moved_of c.args.r.now.moves))) c.args.self.waiting,
    c.requires.total,
    c.requires.held,
  ),
  omega (arith, c.requires.holder),
)
