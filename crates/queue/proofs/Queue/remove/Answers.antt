use borrow.Author.Rules.{rules}
use Rattle.queue.proofs.Laws.{member-one}
use Rattle.queue.proofs.Queue.remove.Goals as goal

pub returns : goal.returns
returns c = c.kept.ensures _ (λ v r e. rw member-one (search rules))
