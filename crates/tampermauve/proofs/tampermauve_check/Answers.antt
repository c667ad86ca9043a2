-- `tampermauve_check` returns what the definition gives, for every list of bytes.
use Rattle.std.proofs.Common.{sym, ◌∙◌}
use Rattle.protocol.proofs.Accepted.{check-index}
use Rattle.tampermauve.proofs.tampermauve_check.Goals as goal

pub code-requires : goal.code-requires
code-requires c = λ f i e. check-index c.args.file.now i f (sym c.check.ensures.verdict ∙ e)
