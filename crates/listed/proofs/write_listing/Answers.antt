-- `write_listing`: a refusal's line; or the lines of the records that the run leaves, and the last line.
use Rattle.std.proofs.Common.{rules, ap, ◌∙◌, arith, length}
use Rattle.text.proofs.Writing.{wrote_as, wrote-both, room-behind}
use Rattle.listed.proofs.Told.{refused-text, accepted-text, listing-left}
use Rattle.listed.proofs.write_listing.Goals as goal

pub returns-then-code-ne-ACCEPTED : goal.returns-then-code-ne-ACCEPTED
returns-then-code-ne-ACCEPTED c =
    listing-left _ c.run_listed-code.ensures c.new-lines.ensures.nothing_written c.new-lines.ensures.all_left
    (wrote_as c.write_refusal.ensures.wrote (refused-text _ _ c.run_listed-code.ensures.code c.if-code-ne-ACCEPTED.true)) c.as_bytes-length.ensures (search rules)

pub write_log-requires-clause-records_in_bounds : goal.write_log-requires-clause-records_in_bounds
write_log-requires-clause-records_in_bounds c =
    let told = accepted-text _ c.run_listed-code.ensures c.if-code-ne-ACCEPTED.false in
    omega (arith, c.from.ensures, c.word_at.ensures, told.records, c.run_listed-code.auto)

pub write_log-requires-clause-enough_room : goal.write_log-requires-clause-enough_room
write_log-requires-clause-enough_room c =
    let told = accepted-text _ c.run_listed-code.ensures c.if-code-ne-ACCEPTED.false in
    omega (arith, c.from.ensures, c.word_at.ensures, told.records, ap length c.new-lines.ensures.all_left, c.requires.enough_room)

pub write_end-requires : goal.write_end-requires
write_end-requires c =
    let told = accepted-text _ c.run_listed-code.ensures c.if-code-ne-ACCEPTED.false in
    let left = room-behind c.write_log.ensures.wrote in
    omega (arith, c.from.ensures, c.word_at.ensures, told.records, ap length c.new-lines.ensures.all_left, left, c.write_log.ensures.within, c.requires.enough_room)

pub returns : goal.returns
returns c =
    let told = accepted-text _ c.run_listed-code.ensures c.if-code-ne-ACCEPTED.false in
    listing-left _ c.run_listed-code.ensures c.new-lines.ensures.nothing_written c.new-lines.ensures.all_left
    (wrote_as (wrote-both c.write_log.ensures.wrote c.write_end.ensures.wrote) (told.text _ (c.from.ensures ∙ c.word_at.ensures))) c.as_bytes-length-2.ensures (search rules)
