-- `fetch`: the record at the place, or the end.
use native.Mathlib.Omega.{arith}
use mathlib.Core.Path.{◌∙◌, sym}
use Rattle.moves.proofs.Fetched.{fetched-step, fetched-end}
use Rattle.moves.proofs.fetch.Goals as goal

pub returns-then-at-end : goal.returns-then-at-end
returns-then-at-end c =
    let a = c.args in
    c.body.ensures ∙ sym (fetched-step a.file.now a.first a.end a.place (omega arith))

pub returns-else-at-end : goal.returns-else-at-end
returns-else-at-end c =
    let a = c.args in
    sym (fetched-end a.file.now a.first a.end a.place (omega arith))
