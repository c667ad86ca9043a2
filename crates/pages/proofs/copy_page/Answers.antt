-- `copy_page`: after i turns i bytes are copied.
use native.Mathlib.Omega.{arith}
use Prim.Native.Nat.{ℕ, ◌+◌}
use mathlib.Core.Path.{sym, ap, ◌∙◌}
use lib.ListN.{set, drop, length-drop}
use lib.Seq.{paste, get_or-drop}
use Rattle.std.proofs.lemmas.List.Edits.{paste_more}
use Rattle.pages.proofs.copy_page.Goals as goal

pub loop-i-preserved : goal.loop-i-preserved
loop-i-preserved c =
    let a = c.args in
    let i = c.loop-i.i in
    let byte = get_or-drop a.start a.from.now i 0 in
    rw c.loop-i.invariant
    (ap (λ (v : ℕ). set (paste a.into.now a.at (drop a.start a.from.now) i) (a.at + i) v) (sym byte)
    ∙ paste_more a.into.now a.at (drop a.start a.from.now) i 0 (omega arith) (simp length-drop (omega arith)))
