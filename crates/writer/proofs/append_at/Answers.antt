-- `append_at`: the record's bytes stand at their place.
use Rattle.std.proofs.Common.{refl}
use native.Mathlib.Omega.{arith}
use Rattle.writer.proofs.Placed.{placed}
use Rattle.writer.proofs.append_at.Goals as goal

pub returns : goal.returns
returns c =
    record {
      count = refl;
      bytes = placed _ _ _ _ _ _ c.copy_from_slice.ensures.after (omega (arith, c.told-entry)) (omega arith) (omega (arith, c.requires, c.told-entry));
    }
