-- `write_refusal`: the word, and the line of refusal and index.
use Rattle.std.proofs.Common.{arith}
use Rattle.text.proofs.Writing.{within_as, within-both, room-behind}
use Rattle.text.proofs.Numbers.{refusal-length, refusal_line-line}
use Rattle.text.proofs.Text.write_refusal.Goals as goal

pub write_line-requires : goal.write_line-requires
write_line-requires c =
    let few = refusal-length c.from.result c.from-2.result (omega (arith, c.from.ensures)) (omega (arith, c.from-2.ensures, c.ranges.code)) in
    omega (arith, few, room-behind c.write_bytes.ensures, c.requires)

pub returns : goal.returns
returns c =
    let few = refusal-length c.from.result c.from-2.result (omega (arith, c.from.ensures)) (omega (arith, c.from-2.ensures, c.ranges.code)) in
    within_as (within-both {m = 8} (record { wrote = c.write_bytes.ensures; within = omega arith }) c.write_line.ensures few)
    (refusal_line-line _ _ _ _ c.from.ensures c.from-2.ensures)
