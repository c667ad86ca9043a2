-- `discard`: the marks of the worker's pages are written over in one stretch.
use native.Mathlib.Omega.{arith}
use Rattle.pages.proofs.Slots.{unmarked-written}
use Rattle.pages.proofs.discard.Goals as goal

pub returns : goal.returns
returns c work =
    unmarked-written c.args.w _ c.args.copied.now c.fill.new.self work c.requires c.told-copied (omega arith) (c.fill.ensures.after (λ y e. e))
