-- `store_byte`: the page is open, then the byte is stored.
use borrow.Author.Rules.{rules}
use Rattle.pages.proofs.Slots.{store-open}
use Rattle.pages.proofs.store_byte.Goals as goal

pub returns : goal.returns
returns c =
    let a = c.args in
    store-open a.memory.now a.w a.address a.byte a.copied.now a.work.now
    c.open_page.new.copied c.open_page.new.work (search rules) c.open_page.ensures
