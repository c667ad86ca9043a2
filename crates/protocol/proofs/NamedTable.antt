-- Document 02, Seven: the addresses that a plan names, of plans most of which are run too, each from two memories or more (in the crate
-- `cases`).
use Prim.Native.Nat.{ℕ}
use mathlib.Core.List.{List, [], ◌∷◌, ◌++◌}
use Rattle.protocol.specs.Format.{plan_of, count_from}
use Rattle.protocol.specs.Rounds.{keep}
use Rattle.protocol.specs.Named.{named}
use Rattle.protocol.proofs.Table.{rec, plan_rec, sleep_rec, stores_at, stores, waiter, copier}

-- store 770 at 4
abbrev pub noted : List ℕ
noted = plan_rec 1 ++ stores_at 0 770 4

-- register 0 is zero, so the store at 20 is skipped
abbrev pub skipper : List ℕ
skipper = plan_rec 1 ++ rec 0 21 0 1 ++ rec 0 18 0 20

-- store 770 at 255, in two pages
abbrev pub bordered : List ℕ
bordered = plan_rec 1 ++ stores_at 0 770 255

-- "A load or store covers its address and the next.": of six addresses, from the first on, those that a file's plan names
pub record Names : Type 0 where
  pub file : List ℕ
  pub first : ℕ
  pub addresses : List ℕ

abbrev names : List ℕ → ℕ → List ℕ → Names
names f a addresses = record { file = f; first = a; addresses = addresses }

unfoldable pub named_in : Names → List ℕ
named_in c = let plan = plan_of c.file in keep (named plan) (count_from 6 c.first)

unfoldable pub naming : List Names
naming =
    names noted 2 (4 ∷ 5 ∷ [])
    -- a load, and a store
    ∷ names copier 4 (6 ∷ 7 ∷ [])
    ∷ names copier 8 (10 ∷ 11 ∷ [])
    -- a store that is skipped, and one of a worker that nobody starts
    ∷ names skipper 18 (20 ∷ 21 ∷ [])
    ∷ names (plan_rec 2 ++ sleep_rec 1 ++ stores 1 7) 0 (0 ∷ 1 ∷ [])
    -- two pages, and the last address
    ∷ names bordered 253 (255 ∷ 256 ∷ [])
    ∷ names (plan_rec 1 ++ rec 0 17 0 2046) 2043 (2046 ∷ 2047 ∷ [])
    -- a set, and what synchronises
    ∷ names (plan_rec 1 ++ rec 0 16 0 3) 0 []
    ∷ names waiter 0 []
    ∷ []
