-- `write_line`: number by number; what remains is written behind what is.
use Rattle.std.proofs.Common.{◌+◌, [], ◌∷◌, drop, refl, sym, ap}
use Rattle.std.proofs.lemmas.List.{at_drop_all}
use Rattle.protocol.specs.Listing.{line}
use Rattle.text.proofs.Writing.{room-left, less-left, all-written}
use Rattle.text.proofs.Numbers.{next-number}
use Rattle.text.proofs.Text.write_line.Goals as goal

pub write_decimal-requires : goal.write_decimal-requires
write_decimal-requires c = room-left c.loop-i.invariant _ _ (next-number _ _ c.loop-i-test.true) c.requires

pub write_byte-requires : goal.write_byte-requires
write_byte-requires c =
    room-left (less-left c.loop-i.invariant _ _ (next-number _ _ c.loop-i-test.true) c.write_decimal.ensures) (_ ∷ []) _ refl c.requires

pub loop-i-preserved : goal.loop-i-preserved
loop-i-preserved c =
    let behind = line (drop (c.loop-i.i + 1) c.args.numbers.now) in
    less-left (less-left c.loop-i.invariant _ _ (next-number _ _ c.loop-i-test.true) c.write_decimal.ensures) (_ ∷ []) behind
    (ap (λ b. b ∷ behind) (sym c.separator.ensures)) c.write_byte.ensures

pub returns : goal.returns
unfolding line
returns c = all-written c.loop-i.invariant (at_drop_all line _ _ c.loop-i-test.false)
