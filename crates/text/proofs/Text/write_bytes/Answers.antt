-- `write_bytes`: the copy stands behind what was written.
use Rattle.std.proofs.Common.{◌+◌, ◌++◌, length, take, refl, sym, ap, ◌∙◌, arith}
use Rattle.std.proofs.lemmas.Slice.{take-put_mid, drop-put_mid}
use Rattle.std.proofs.lemmas.List.{drop-drop}
use Rattle.text.proofs.Text.write_bytes.Goals as goal

pub returns : goal.returns
returns c =
    let before = c.args.self.now in
    let copy = c.copy_from_slice.ensures.after in
    let same = ap length copy in
    let end = before.end + length c.args.bytes.now in
    record {
      stands =
          take-put_mid before.end _ before.bytes.now _ end (omega (arith, same)) (omega (arith, before.fits))
          ∙ ap (λ bytes. take before.end before.bytes.now ++ bytes) copy;
      behind =
          drop-put_mid before.end _ before.bytes.now _ end (omega arith) (omega (arith, before.fits)) (omega (arith, same))
          ∙ sym (drop-drop (length c.args.bytes.now) before.end before.bytes.now);
      same_slice = refl;
    }
