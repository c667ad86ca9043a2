-- `print_line`: the room is enough for the word and the number.
use Rattle.std.proofs.Common.{ap, length, arith}
use Rattle.text.proofs.Writing.{room-behind}
use Rattle.text.proofs.Numbers.{number-length}
use Rattle.vectors.proofs.print_line.Goals as goal

pub write_line-requires : goal.write_line-requires
write_line-requires g c =
    omega (
      arith,
      c.requires,
      ap length c.new-text.ensures.all_left,
      room-behind c.write_bytes.ensures,
      number-length c.args.number (omega (arith, c.ranges.number)),
    )
