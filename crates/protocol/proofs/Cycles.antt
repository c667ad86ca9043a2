-- The listing program's turns: whole cycles, which name workers below n alone, are not too many, and end the plan. So the file alone
-- decides whether a run takes them, and what an accepted one leaves is what the round-by-round run leaves. Callers want `listed-verdict`,
-- `listed-ends` and `length-cycles`.
use Prim.Native.Nat.{ℕ, zero, suc, ◌+◌, ◌*◌, ◌≤◌}
use mathlib.Core.Bool.{Bool, true, false, ◌||◌}
use mathlib.Core.Path.{◌≡◌, refl, ap, ◌∙◌, subst⁻¹}
use mathlib.Core.List.{List, ◌++◌}
use native.Mathlib.Omega.{arith}
use borrow.Author.Tests.{lt-leb, le-ltb}
use lib.Dec.{ltb}
use lib.ListN.{length, length-append}
use Rattle.protocol.specs.Format.{up_to, count_from, plan_of}
use Rattle.protocol.specs.Refusals.{Verdict, accepted, refused, check, any_of}
use Rattle.protocol.specs.Turns.{workers_of, ended}
use Rattle.protocol.specs.RoundRun.{move_limit, round_run}
use Rattle.protocol.specs.Calls.{Buffers, misfit, names_nobody, turns_limit, verdict_by, run_verdict, played_from}
use Rattle.protocol.specs.Listing.{cycles, listed_turns, turns_by}
use Rattle.protocol.specs.Demands.{Whole, Cycles, done, cycle}
use Rattle.protocol.proofs.Lists.{length-count_from}
use Rattle.protocol.proofs.Counting.{occurs-within}
use Rattle.protocol.proofs.Accepted.{sound-file}
use Rattle.protocol.proofs.Bounds.{records-bound}
use Rattle.protocol.proofs.Demand3.{demand3-file}

-- ---- whole cycles

whole : (n : ℕ) → Whole n (up_to n)
whole n = record { turns = length-count_from n 0; each = λ w h. occurs-within n 0 w (omega arith) (omega arith) }

whole-cycles : (n k : ℕ) → Cycles n k (cycles n k)
unfolding cycles
whole-cycles n zero = done
whole-cycles n (suc k) = cycle (up_to n) _ (whole n) (whole-cycles n k) refl

-- ---- they name workers below n alone

up-names : (n k i : ℕ) (rest : List ℕ) → i + k ≤ n → names_nobody n (count_from k i ++ rest) ≡ names_nobody n rest
unfolding any_of count_from
up-names n zero i rest h = refl
up-names n (suc k) i rest h =
    ap (λ (b : Bool). b || names_nobody n (count_from k (suc i) ++ rest)) (lt-leb n i (omega arith)) ∙ up-names n k (suc i) rest (omega arith)

cycles-name : (n k : ℕ) → names_nobody n (cycles n k) ≡ false
unfolding cycles any_of
cycles-name n zero = refl
cycles-name n (suc k) = up-names n n 0 (cycles n k) (omega arith) ∙ cycles-name n k

-- ---- how many they are

pub length-cycles : (n k : ℕ) → length (cycles n k) ≡ k * n
unfolding cycles
length-cycles n zero = omega arith
length-cycles n (suc k) =
    let l = length-count_from n 0 in
    let a = length-append (up_to n) (cycles n k) in
    let c = length-cycles n k in
    omega arith

grows : (a b c : ℕ) → a ≤ b → a * c ≤ b * c
grows a b zero h = omega arith
grows a b (suc c) h = let k = grows a b c h in omega arith

few : (file : List ℕ) → check file ≡ accepted → length (listed_turns (plan_of file)) ≤ turns_limit
few file ok =
    let sound = sound-file file ok in
    let n = workers_of (plan_of file) in
    let bound = records-bound (plan_of file) sound in
    let most = sound.workers in
    let length = length-cycles n (move_limit (plan_of file)) in
    let product = grows (move_limit (plan_of file)) 2064 n (omega arith) in
    omega arith

-- ---- a run with them

by-file : (m t s : Bool) (v : Verdict) → m ≡ false → t ≡ false → (v ≡ accepted → s ≡ false) → verdict_by m t v s ≡ v
by-file m t s v fits short named =
    rw (fits, short) (go v named)
  where
    go : (u : Verdict) → (u ≡ accepted → s ≡ false) → verdict_by false false u s ≡ u
    go accepted known = ap (λ (b : Bool). verdict_by false false accepted b) (known refl)
    go (refused f i) known = refl

module _ (file : List ℕ) where
  abbrev turns : List ℕ
  turns = turns_by (check file) file

  short : length turns ≤ turns_limit
  short = go (check file) refl
    where
      go : (v : Verdict) → check file ≡ v → length (turns_by v file) ≤ turns_limit
      go accepted e = few file e
      go (refused f i) e = omega arith

  named : check file ≡ accepted → names_nobody (workers_of (plan_of file)) turns ≡ false
  named ok =
      ap (λ (v : Verdict). names_nobody (workers_of (plan_of file)) (turns_by v file)) ok
      ∙ cycles-name (workers_of (plan_of file)) (move_limit (plan_of file))

  pub listed-verdict : (b : Buffers) → misfit b ≡ false → run_verdict file turns b ≡ check file
  unfolding run_verdict
  listed-verdict b fits =
      by-file (misfit b) (ltb turns_limit (length turns)) (names_nobody (workers_of (plan_of file)) turns) (check file) fits
      (le-ltb turns_limit (length turns) short) named

  module _ (ok : check file ≡ accepted) (memory : List ℕ) where
    ends : ended (played_from (plan_of file) memory turns) ≡ true
    ends =
        (demand3-file file ok memory turns).cycles_end
        (subst⁻¹ (λ (v : Verdict). Cycles (workers_of (plan_of file)) (move_limit (plan_of file)) (turns_by v file)) ok
        (whole-cycles (workers_of (plan_of file)) (move_limit (plan_of file))))

    pub listed-ends : played_from (plan_of file) memory turns ≡ round_run (plan_of file) memory
    listed-ends = (demand3-file file ok memory turns).same_end ends
