-- The laws of what a worker holds, by either discipline, and that of a plan file.
-- Assumes nothing.
use Prim.Native.Nat.{ℕ, ◌+◌, ◌≤◌}
use native.Mathlib.Omega.{arith}
use mathlib.Core.Bool.{Bool, true, false, cond}
use mathlib.Core.Path.{◌≡◌, refl}
use mathlib.Core.List.{List, [], ◌∷◌}
use lib.Dec.{eqb}
use lib.ListN.{length}
use Rattle.protocol.specs.Format.{Discipline, by_name, by_count, plan_in, plan_of}
use Rattle.protocol.specs.Rounds.{remove, locked, unlocked}

-- a file's locks go by name
pub file-named : (file : List ℕ) → (plan_of file).locks ≡ by_name
unfolding plan_in
file-named file = refl

pub locked-more : (d : Discipline) (k : ℕ) (held : List ℕ) → length (locked d k held) ≡ length held + 1
locked-more by_name k held = omega arith
locked-more by_count k held = omega arith

remove-fewer : (k : ℕ) (held : List ℕ) → length (remove k held) ≤ length held
unfolding remove
remove-fewer k [] = omega arith
remove-fewer k (j ∷ js) = go (eqb k j) (remove-fewer k js)
  where
    go : (b : Bool) → length (remove k js) ≤ length js → length (cond b js (j ∷ remove k js)) ≤ length (j ∷ js)
    go true h = omega arith
    go false h = omega arith

pub unlocked-fewer : (d : Discipline) (k : ℕ) (held : List ℕ) → length (unlocked d k held) ≤ length held
unlocked-fewer by_name k held = remove-fewer k held
unlocked-fewer by_count k [] = omega arith
unlocked-fewer by_count k (j ∷ js) = omega arith
