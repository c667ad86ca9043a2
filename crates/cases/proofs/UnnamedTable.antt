-- Document 02, Seven: plans that leave bytes unnamed, each from two memories or more, with the bytes that it leaves, worked out by hand.
use Prim.Native.Nat.{ℕ}
use mathlib.Core.List.{List, [], ◌∷◌, ◌++◌}
use lib.ListN.{replicate}
use Rattle.protocol.proofs.Table.{listing, thrice, Case, plan_rec, report, sum, small, both, exits, stores, case, copier, lone}
use Rattle.protocol.proofs.NamedTable.{noted, skipper, bordered}

-- the plan of case 2: both store at 0
abbrev racers : List ℕ
racers = plan_rec 2 ++ stores 0 256 ++ stores 1 1

-- "have equal logs, reports but for the sum, and memory elsewhere"
unfoldable pub unnamed : List Case
unnamed =
    -- the named word becomes 02 03, and all around it stays: 4,885; and 117,508
    lone noted (9 ∷ 8 ∷ 7 ∷ 6 ∷ 5 ∷ 4 ∷ 3 ∷ 2 ∷ []) (9 ∷ 8 ∷ 7 ∷ 6 ∷ 2 ∷ 3 ∷ 3 ∷ 2 ∷ []) 4 (sum 21 19 0 0)
    ∷ lone noted (1 ∷ 1 ∷ 1 ∷ 255 ∷ 5 ∷ 4 ∷ 0 ∷ 200 ∷ []) (1 ∷ 1 ∷ 1 ∷ 255 ∷ 2 ∷ 3 ∷ 0 ∷ 200 ∷ []) 4 (sum 4 203 1 0)
    -- 5 at 6 is copied; sevens just before and just behind the word change nothing else: 10; and 1,809
    ∷ lone copier (replicate 6 0 ++ (5 ∷ [])) (replicate 6 0 ++ (5 ∷ 0 ∷ 0 ∷ 0 ∷ 5 ∷ [])) 4 (small 10)
    ∷ lone copier (replicate 5 0 ++ (7 ∷ 5 ∷ 0 ∷ 7 ∷ [])) (replicate 5 0 ++ (7 ∷ 5 ∷ 0 ∷ 7 ∷ 0 ∷ 5 ∷ [])) 4 (sum 17 7 0 0)
    -- a store that is never made. Its bytes are named all the same (`naming` in `protocol`), so that the promise does not speak of them.
    ∷ lone skipper (replicate 20 0 ++ (3 ∷ 4 ∷ [])) (replicate 20 0 ++ (3 ∷ 4 ∷ [])) 3 (sum 3 4 0 0)
    -- a race for the word at 0, in one page with the byte at 2
    ∷ case racers (0 ∷ 0 ∷ 77 ∷ []) listing (1 ∷ 1 ∷ 77 ∷ []) (exits 1) (report 1 2 8 1 2 (both 1 1) (sum 78 1 0 0))
    ∷ case racers (0 ∷ 0 ∷ 200 ∷ []) listing (1 ∷ 1 ∷ 200 ∷ []) (exits 1) (report 1 2 8 1 2 (both 1 1) (sum 201 1 0 0))
    -- "after any turns": three of worker 0, and nothing is committed
    ∷ case racers (0 ∷ 0 ∷ 77 ∷ []) thrice (0 ∷ 0 ∷ 77 ∷ []) [] (report 0 2 3 0 0 (both 0 0) (small 77))
    ∷ case racers (0 ∷ 0 ∷ 200 ∷ []) thrice (0 ∷ 0 ∷ 200 ∷ []) [] (report 0 2 3 0 0 (both 0 0) (small 200))
    -- a word of two pages, and the bytes on either side of it: 2,572; and 65,795
    ∷ lone bordered (replicate 254 0 ++ (9 ∷ 0 ∷ 0 ∷ 8 ∷ [])) (replicate 254 0 ++ (9 ∷ 2 ∷ 3 ∷ 8 ∷ [])) 4 (sum 12 10 0 0)
    ∷ lone bordered (replicate 257 0 ++ (255 ∷ [])) (replicate 255 0 ++ (2 ∷ 3 ∷ 255 ∷ [])) 4 (sum 3 1 1 0)
    ∷ []
