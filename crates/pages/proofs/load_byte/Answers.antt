-- `load_byte`: the two ways out are the two cases of a load.
use borrow.Author.Rules.{rules}
use Rattle.pages.proofs.Slots.{load-copy, load-shared}
use Rattle.pages.proofs.load_byte.Goals as goal

pub returns-then-copied-slot : goal.returns-then-copied-slot
returns-then-copied-slot c =
    let a = c.args in
    load-copy a.memory.now a.copied.now a.work.now a.w a.address (search rules) c.if-copied-slot.true

pub returns-else-copied-slot : goal.returns-else-copied-slot
returns-else-copied-slot c =
    let a = c.args in
    load-shared a.memory.now a.copied.now a.work.now a.w a.address (search rules) c.if-copied-slot.false
