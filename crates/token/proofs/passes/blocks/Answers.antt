-- `blocks`: a block whose workers are all idle is passed.
use borrow.Author.Rules.{rules}
use borrow.Author.Tests.{not-false}
use native.Mathlib.Omega.{arith}
use mathlib.Core.Path.{sym, ◌∙◌}
use Rattle.token.proofs.Passing.{block-named, passed-block}
use Rattle.token.proofs.passes.blocks.Goals as goal

pub span-requires : goal.span-requires
span-requires c = block-named _ _ c.in-Some.ensures.cases c.requires.named

pub idle-requires : goal.idle-requires
idle-requires c =
    let s = c.span.ensures in
    (omega (arith, s.low 0 (omega arith) (omega arith), s.high 0 (omega arith) (omega arith)), s.below)

pub loop-block-preserved : goal.loop-block-preserved
loop-block-preserved c =
    let none = sym c.idle.ensures ∙ not-false _ (search rules) in
    passed-block _ _ c.in-Some.ensures.cases (search rules) c.loop-block.invariant c.span.ensures none
