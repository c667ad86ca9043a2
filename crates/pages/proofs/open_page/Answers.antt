-- `open_page`: a slot in use, or a page copied twice.
use borrow.Author.Rules.{rules}
use Rattle.protocol.specs.Pages.{page}
use Rattle.pages.proofs.Slots.{open-slot, open-again}
use Rattle.pages.proofs.open_page.Goals as goal

pub returns-then-copied-slot : goal.returns-then-copied-slot
returns-then-copied-slot c =
    let a = c.args in
    open-again a.slot (page a.memory.now a.p) a.copied.now a.work.now c.if-copied-slot.true

pub returns : goal.returns
returns c =
    let a = c.args in
    open-slot a.slot a.p a.memory.now a.copied.now a.work.now
    (search rules) c.requires.0.memory_length c.requires.0.work_length (search rules) c.told-copied c.if-copied-slot.false
    c.copy_page.new.into c.copy_page-2.new.into c.copy_page.ensures c.copy_page-2.ensures
