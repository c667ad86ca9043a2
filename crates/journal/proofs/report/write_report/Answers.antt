-- `write_report`: twenty bytes: eight, eight and four.
use Rattle.std.proofs.Common.{◌∙◌, refl}
use Rattle.protocol.specs.Format.{workers_limit, count_from}
use Rattle.protocol.specs.Report.{four_bytes}
use Rattle.journal.specs.Bytes.{fates_from, tallies_of, report_of}
use Rattle.journal.proofs.Packing.{sum-bytes, parts}
use Rattle.journal.proofs.report.write_report.Goals as goal

pub returns : goal.returns
unfolding report_of count_from
returns c =
    let a = c.args in
    rw (
      c.copy_from_slice.ensures.after,
      c.copy_from_slice-2.ensures.after,
      c.copy_from_slice-3.ensures.after,
      c.to_le_bytes-moves.ensures,
      c.to_le_bytes-rounds.ensures,
      c.to_le_bytes-records.ensures,
      c.fate_bytes.ensures,
      c.to_le_bytes.ensures ∙ sum-bytes a.sum,
    )
    (parts a.report.now (tallies_of a.end a.workers a.c.moves a.c.rounds a.c.records) (fates_from a.workers a.fates.now workers_limit 0) (four_bytes a.sum) refl refl)
