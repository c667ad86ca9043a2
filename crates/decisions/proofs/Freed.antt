-- The laws of the fates that a step frees.
-- Assumes nothing.
use Prim.Native.Nat.{ℕ, zero, suc, ◌<◌}
use native.Mathlib.Omega.{arith}
use borrow.Author.Tests.{eqb-true, eqb-false}
use mathlib.Core.Bool.{Bool, true, false, cond, ◌||◌}
use mathlib.Core.Path.{◌≡◌, refl, ap, ◌∙◌}
use mathlib.Core.List.{List, [], ◌∷◌, ◌++◌}
use lib.Dec.{eqb}
use lib.ListN.{length, get_or, set, length-set}
use lib.Seq.{get_or-set_same, get_or-set_other}
use Rattle.protocol.specs.Rounds as rounds
use Rattle.protocol.specs.Rounds.{member, fate_after}
use Rattle.queue.specs.List.{set_all}
use Rattle.queue.proofs.Walk.{length-all}
use Rattle.rules.specs.Codes.{fate_code}
use Rattle.decisions.specs.Fates.{FatesSettled}

-- 0 stands past the end too
zero-at : (fates : List ℕ) (w : ℕ) → get_or (set fates w 0) w 0 ≡ 0
zero-at [] w = refl
zero-at (k ∷ ks) zero = refl
zero-at (k ∷ ks) (suc w) = zero-at ks w

get_or-zero : (fates : List ℕ) (v w : ℕ) → get_or (set fates v 0) w 0 ≡ cond (eqb w v) 0 (get_or fates w 0)
get_or-zero fates v w = go (eqb w v) refl
  where
    go : (b : Bool) → eqb w v ≡ b → get_or (set fates v 0) w 0 ≡ cond b 0 (get_or fates w 0)
    go true e = rw (eqb-true w v e) (zero-at fates v)
    go false e = get_or-set_other fates v w 0 0 (eqb-false w v e)

get_or-freed : (ws fates : List ℕ) (w : ℕ) → get_or (set_all 0 ws fates) w 0 ≡ cond (member w ws) 0 (get_or fates w 0)
unfolding member
get_or-freed [] fates w = refl
get_or-freed (v ∷ vs) fates w = get_or-freed vs (set fates v 0) w ∙ rw get_or-zero (go (eqb w v) (member w vs) (get_or fates w 0))
  where
    go : (a b : Bool) (x : ℕ) → cond b 0 (cond a 0 x) ≡ cond (a || b) 0 x
    go true true x = refl
    go true false x = refl
    go false b x = refl

-- the holder's fate, stored last
pub settled :
    (before : List ℕ) (is : rounds.Ruling) (h : ℕ) (freed : List ℕ) (code : ℕ)
    → length before ≡ 8 → h < 8 → freed ≡ set_all 0 (is.wakes ++ is.joins) before → code ≡ fate_code (fate_after is.goes)
    → FatesSettled before is h (set freed h code)
settled before is h freed code long fits same e =
    let left : length freed ≡ 8 = ap length same ∙ length-all 0 (is.wakes ++ is.joins) before ∙ long in
    record { size = simp length-set left; code = λ w. go w (eqb w h) refl left }
  where
    go :
        (w : ℕ) (b : Bool) → eqb w h ≡ b → length freed ≡ 8
        → get_or (set freed h code) w 0
        ≡ cond b (fate_code (fate_after is.goes)) (cond (member w (is.wakes ++ is.joins)) 0 (get_or before w 0))
    go w true y left = rw (eqb-true w h y) (get_or-set_same freed h code 0 (omega arith) ∙ e)
    go w false n left =
        get_or-set_other freed h w code 0 (eqb-false w h n)
        ∙ rw same (get_or-freed (is.wakes ++ is.joins) before w)
