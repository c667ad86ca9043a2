-- `read_full`: what the reads so far put at the start is what they took from the reader.
use Rattle.std.proofs.Common.{◌≡◌, ℕ, ◌+◌, ◌≤◌, List, ◌++◌, rules, length, take, sym, ap, ◌∙◌, subst, le_refl, drop_at, length-take-le}
use Rattle.std.proofs.lemmas.Slice.{take-put_mid_below}
use Rattle.std.specs.Io.KnownBytes.{Consumes}
use Rattle.std.proofs.KnownBytes.{Consumes-trans}
use borrow.Rule.Slice.PartMut.{put_mid, post_of}
use lib.Seq.{take-add, take-append-le}
use Rattle.listed.proofs.input.read_full.Goals as goal

-- the part that was read, behind what stood there
take_read : (done room n : ℕ) (xs part : List ℕ) → done ≤ length xs → n ≤ length part → take done xs ++ take n part ≡ take (done + n) (put_mid done room xs part)
take_read done room n xs part within fits =
    let new = put_mid done room xs part in
    let read = ap (take n) (drop_at (take done xs) (part ++ post_of done room xs) done (length-take-le done xs within)) ∙ take-append-le n part (post_of done room xs) fits in
    ap (λ l. l ++ take n part) (sym (take-put_mid_below _ _ _ _ _ (le_refl _) within)) ∙ ap (λ l. take done new ++ l) (sym read) ∙ sym (take-add done n new)

pub loop-done-preserved : goal.loop-done-preserved
loop-done-preserved g c =
    let at = c.loop-done in (
      search rules,
      subst (Consumes _ _) (take_read at.done _ c.in-Ok.n at.buf c.read.new.buf at.invariant.0 c.in-Ok.ensures.bound.0)
          (Consumes-trans _ _ _ _ _ at.invariant.1 c.in-Ok.ensures.bytes.0),
    )
