use Rattle.std.proofs.Common.{ap, sym, ◌∙◌, length}
use Rattle.queue.specs.Digits.{length-digits_of}
use Rattle.queue.proofs.Queue.count.Goals as goal

pub returns-clause-value : goal.returns-clause-value
returns-clause-value c = sym (length-digits_of _ c.self.inside.digits) ∙ ap length c.self.view_is
