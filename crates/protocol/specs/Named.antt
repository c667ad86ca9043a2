-- Document 02, Seven: the bytes that a plan's loads and stores cover, and memories that differ in other bytes alone.
use Rattle.std.specs.Prelude.{ℕ, ◌+◌, Bool, true, false, ◌||◌, ◌≡◌, List, eqb, length, get_or}
use Rattle.protocol.specs.Format.{Own, assign, load, store, add, subtract, skip_zero, skip_nonzero, Step, own, sync, Plan}
use Rattle.protocol.specs.Refusals.{any_of}

-- "A load or store covers its address and the next."
abbrev pub word_covers : ℕ → ℕ → Bool
word_covers address a = eqb a address || eqb a (address + 1)

abbrev pub own_covers : Own → ℕ → Bool
own_covers (assign r k) a = false
own_covers (load r address) a = word_covers address a
own_covers (store r address) a = word_covers address a
own_covers (add r q) a = false
own_covers (subtract r q) a = false
own_covers (skip_zero r k) a = false
own_covers (skip_nonzero r k) a = false

abbrev pub covers : Step → ℕ → Bool
covers (own o) a = own_covers o a
covers (sync y) a = false

-- "a byte that no load or store of any worker covers" is one that is not named. A step names its bytes by standing in the plan: whether a run
-- ever comes to it, or skips it, or never starts its worker, does not matter.
unfoldable pub named : Plan → ℕ → Bool
named plan a = any_of (λ steps. any_of (λ s. covers s a) steps) plan.steps

-- "memories that differ only in such bytes"
pub record SameNamed (plan : Plan) (memory other : List ℕ) : Type 0 where
  pub size : length memory ≡ length other
  pub bytes : (a : ℕ) → named plan a ≡ true → get_or memory a 0 ≡ get_or other a 0
