-- `write_record`: the line of the five numbers that are read.
use Rattle.std.proofs.Common.{◌∙◌, ap, length, arith}
use Rattle.text.specs.Text.{entry_at}
use Rattle.text.proofs.Writing.{wrote_as}
use Rattle.text.proofs.Numbers.{record-length, record-line}
use Rattle.text.proofs.Text.write_record.Goals as goal

pub write_line-requires : goal.write_line-requires
write_line-requires c =
    let same = record-line (entry_at c.args.entry.now 0) _ _ _ _ _ (c.from.ensures ∙ c.word_at.ensures) c.from-2.ensures c.from-3.ensures c.from-4.ensures c.from-5.ensures in
    omega (arith, c.requires, ap length same, record-length c.args.entry.now 0 c.fits-entry)

pub returns : goal.returns
returns c =
    let same = record-line (entry_at c.args.entry.now 0) _ _ _ _ _ (c.from.ensures ∙ c.word_at.ensures) c.from-2.ensures c.from-3.ensures c.from-4.ensures c.from-5.ensures in
    record { wrote = wrote_as c.write_line.ensures same; within = record-length c.args.entry.now 0 c.fits-entry }
