-- Setting the entries of some workers makes no list longer or shorter.
-- Assumes nothing.
use Prim.Native.Nat.{ℕ}
use mathlib.Core.Path.{◌≡◌, refl, ◌∙◌}
use mathlib.Core.List.{List, [], ◌∷◌}
use lib.ListN.{length, set, length-set}
use Rattle.queue.specs.List.{set_all}

pub length-all : {A : Type 0} (x : A) (ws : List ℕ) (entries : List A) → length (set_all x ws entries) ≡ length entries
length-all x [] entries = refl
length-all x (w ∷ ws) entries = length-all x ws (set entries w x) ∙ simp length-set
