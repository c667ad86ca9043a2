-- `write_log`: record by record.
use Rattle.std.proofs.Common.{arith, ◌≡◌, ◌*◌, ◌/◌, ◌∙◌, ap, subst, ◌++◌, length, take, length-take-le}
use Rattle.protocol.specs.Report.{entry_length}
use Rattle.protocol.specs.Listing.{record_line, log_lines}
use Rattle.text.specs.Text.{record_line_limit, WroteWithin, entries_from}
use Rattle.text.proofs.Writing.{wrote-nothing, within_as, within-both}
use Rattle.text.proofs.Entries.{entry-in, log_more}
use Rattle.text.proofs.Text.write_log.Goals as goal

pub loop-entry-init : goal.loop-entry-init
unfolding entries_from log_lines
loop-entry-init c = record { wrote = wrote-nothing _; within = omega arith }

pub loop-entry-preserved : goal.loop-entry-preserved
loop-entry-preserved c =
    let log = c.args.log.now in
    let i = c.loop-entry.entry-index in
    let many : length c.as_chunks.result.0.now ≡ length (take (entry_length * c.args.records) log) / entry_length = c.as_chunks.ensures.front_len in
    let long = length-take-le (entry_length * c.args.records) log c.requires.records_in_bounds in
    let same = entry-in log i c.as_chunks.ensures.front (omega (arith, many, c.loop-entry-test.true), omega (arith, long)) in
    let more = ap (λ e. log_lines (entries_from log i 0) ++ record_line e) same ∙ log_more log i in
    let next = within_as (within-both c.loop-entry.invariant c.write_record.ensures.wrote c.write_record.ensures.within) more in
    record { wrote = next.wrote; within = omega (arith, next.within) }

pub returns : goal.returns
returns c =
    let log = c.args.log.now in
    let many : length c.as_chunks.result.0.now ≡ length (take (entry_length * c.args.records) log) / entry_length = c.as_chunks.ensures.front_len in
    let long = length-take-le (entry_length * c.args.records) log c.requires.records_in_bounds in
    let all : c.loop-entry.entry-index ≡ c.args.records = omega (arith, many, long, c.loop-entry-test.false) in
    subst (λ k. WroteWithin (record_line_limit * k) c.args.self.now (log_lines (entries_from log k 0)) c.loop-entry.self) all c.loop-entry.invariant
