-- `own_move`: what is loaded, the step, and what is stored.
use borrow.Author.Tests.{eq-eqb}
use mathlib.Core.Path.{◌∙◌}
use Rattle.protocol.specs.Ops.{op_load}
use Rattle.moves.proofs.Owned.{own-moved}
use Rattle.moves.proofs.own_move.Goals as goal

pub returns : goal.returns
returns c =
    let a = c.args in
    own-moved a.v a.r a.w a.memory.now a.copied.now a.work.now c.keep.new.copied c.keep.new.work
    c.loaded-read.result c.step-moved.result c.told-copied (λ e. c.loaded-read.ensures ∙ rw (eq-eqb a.r.op op_load e)) c.step-moved.ensures c.keep.ensures
