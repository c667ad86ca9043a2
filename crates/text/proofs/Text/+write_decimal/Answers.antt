-- `write_decimal`: the digits before the last, if there are any, and the last.
use Rattle.std.proofs.Common.{sym, arith}
use Rattle.text.proofs.Writing.{wrote_as, wrote-both, room-behind}
use Rattle.text.proofs.Digits.{last-digit, more-digits, length_more, some-digit}
use Rattle.text.proofs.Text.+write_decimal.Goals as goal
use Rattle.text.proofs.Text.+write_decimal.Goals.{then-n-ge10, else-n-ge10}

pub write_decimal-requires : goal.write_decimal-requires
write_decimal-requires t c =
    let more = length_more c.args.n c.if-n-ge10.true in
    (omega (arith, c.decreases, c.if-n-ge10.true), omega (arith, c.requires, more))

pub write_byte-requires : goal.write_byte-requires
write_byte-requires t c =
    elim c.if-n-ge10.branch [
      | then-n-ge10 w ↦ rw w.self-is (omega (arith, room-behind w.write_decimal.ensures, length_more c.args.n w.if-n-ge10.true, c.requires))
      | else-n-ge10 w ↦ rw w.self-is (omega (arith, c.requires, some-digit c.args.n))
    ]

pub returns : goal.returns
returns t c =
    elim c.if-n-ge10.branch [
      | then-n-ge10 w ↦ wrote_as (wrote-both w.write_decimal.ensures (rw (sym w.self-is) c.write_byte.ensures)) (sym (more-digits _ w.if-n-ge10.true))
      | else-n-ge10 w ↦ wrote_as (rw (sym w.self-is) c.write_byte.ensures) (sym (last-digit _ (omega (arith, w.if-n-ge10.false))))
    ]
