-- `write_end`: the end's word, and the line of the moving turns.
use Rattle.std.proofs.Common.{◌∙◌, arith}
use Rattle.text.proofs.Writing.{within_as, within-both, room-within}
use Rattle.text.proofs.Numbers.{moves-length, end_line-line}
use Rattle.text.proofs.Text.write_end.Goals as goal

pub write_line-requires : goal.write_line-requires
write_line-requires c =
    let few = moves-length c.from.result (omega (arith, c.from.ensures, c.word_at.type_inv)) in
    omega (arith, few, room-within {k = 6} c.write_end_word.ensures c.requires)

pub returns : goal.returns
returns c =
    let few = moves-length c.from.result (omega (arith, c.from.ensures, c.word_at.type_inv)) in
    within_as (within-both c.write_end_word.ensures c.write_line.ensures few) (end_line-line _ _ _ (c.from.ensures ∙ c.word_at.ensures))
