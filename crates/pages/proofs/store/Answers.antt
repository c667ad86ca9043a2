-- `store`: two bytes, one after the other.
use native.Mathlib.Omega.{arith}
use Prim.Native.Nat.{ℕ, ◌%◌, ◌/◌}
use mathlib.Core.Path.{◌≡◌, ap, ◌∙◌}
use mathlib.Core.List.{List}
use lib.ListN.{get_or}
use Rattle.pages.proofs.Slots.{store_both}
use Rattle.pages.proofs.store.Goals as goal

pub returns : goal.returns
returns c =
    let a = c.args in
    let low = ap (λ (l : List ℕ). get_or l 0 0) c.to_le_bytes.ensures in
    let high = ap (λ (l : List ℕ). get_or l 1 0) c.to_le_bytes.ensures in
    let top : a.number / 256 % 256 ≡ a.number / 256 = omega arith in
    store_both a.memory.now a.w a.address _ a.number _ _ a.copied.now a.work.now c.store_byte.new.copied c.store_byte.new.work
    c.store_byte-2.new.copied c.store_byte-2.new.work low (high ∙ top) c.store_byte.ensures c.store_byte-2.ensures (omega arith)
