-- The laws of those who wait, found by their fates' codes.
-- Assumes nothing.
use Prim.Native.Nat.{ℕ, ◌+◌, ◌-◌, ◌≤◌, ◌<◌}
use native.Mathlib.Omega.{arith}
use native.Mathlib.Decide.{dec_lt}
use borrow.Author.Tests.{eq-eqb, eqb-true, lt-ltb}
use mathlib.Core.Bool.{Bool, true, false, cond, ◌||◌, ◌&&◌}
use mathlib.Core.Path.{◌≡◌, refl, ap, sym, ◌∙◌}
use mathlib.Core.List.{List, [], ◌∷◌}
use lib.Dec.{eqb, ltb}
use lib.ListN.{length, get_or}
use Rattle.protocol.specs.Steps.{QueueName, waiting}
use Rattle.protocol.specs.Rounds.{State, worker_at, waits_on, queue_of, member, keep}
use Rattle.queue.proofs.Laws.{member-one}
use Rattle.queue.proofs.Picked.{length-keep}
use Rattle.queue.specs.List.{Below}
use Rattle.rules.specs.Codes.{fate_code}
use Rattle.rules.specs.Rules.{found, Met}
use Rattle.rules.proofs.Codes.{code_same}

-- two tests that agree on a list keep the same
pub keep_same : (s t : ℕ → Bool) (ws : List ℕ) → ((w : ℕ) → member w ws ≡ true → s w ≡ t w) → keep s ws ≡ keep t ws
unfolding keep member
keep_same s t [] same = refl
keep_same s t (w ∷ ws) same =
    rw (same w (rw (eq-eqb w w refl)), keep_same s t ws (λ v m. same v (later (eqb v w) m)))
  where
    later : (a : Bool) {b : Bool} → b ≡ true → a || b ≡ true
    later true e = refl
    later false e = e

off : (b : Bool) → b && false ≡ false
off true = refl
off false = refl

pub member-keep : (t : ℕ → Bool) (ws : List ℕ) (w : ℕ) → member w (keep t ws) ≡ member w ws && t w
unfolding keep member
member-keep t [] w = refl
member-keep t (v ∷ vs) w = go (t v) refl (eqb w v) refl (member-keep t vs w)
  where
    go :
        (b : Bool) → t v ≡ b → (a : Bool) → eqb w v ≡ a → member w (keep t vs) ≡ member w vs && t w
        → member w (cond b (v ∷ keep t vs) (keep t vs)) ≡ (a || member w vs) && t w
    go true y true e m = rw (e, eqb-true w v e, y)
    go true y false e m = rw e m
    go false n true e m = let z : t w ≡ false = ap t (eqb-true w v e) ∙ n in rw (m, z) (off (member w vs))
    go false n false e m = m

pub below-keep : (n : ℕ) (t : ℕ → Bool) (ws : List ℕ) → Below n ws → Below n (keep t ws)
below-keep n t ws b w e = b w (first (member w ws) (t w) (sym (member-keep t ws w) ∙ e))
  where
    first : (a b : Bool) → a && b ≡ true → a ≡ true
    first true b e = refl
    first false b e = e

-- those whom a barrier finds: they are too few for it if all who wait there are, and else they are all of them
module _ {fates waiting : List ℕ} {code size : ℕ} {q : List ℕ} (m : Met fates waiting code size q) where
  abbrev there : List ℕ
  there = found fates waiting code

  short : length there ≤ length waiting
  short = length-keep (λ w. eqb (get_or fates w 0) code) waiting

  pub met-few : length q + 1 < size → ltb (length there) (size - 1) ≡ true
  met-few h = lt-ltb (length there) (size - 1) (elim (dec_lt (length waiting + 1) size) [
    | yes l ↦ omega (arith, l, short)
    | no l ↦ omega (arith, h, ap length (m.late (omega arith)))
  ])

  pub met_all : size ≤ length q + 1 → q ≡ there
  met_all h = elim (dec_lt (length waiting + 1) size) [
    | yes l ↦ absurd (omega (arith, l, h, ap length (m.early l)))
    | no l ↦ m.late (omega arith)
  ]

  pub met-short : length q ≤ length waiting
  met-short = elim (dec_lt (length waiting + 1) size) [
    | yes l ↦ omega (arith, ap length (m.early l))
    | no l ↦ omega (arith, ap length (m.late (omega arith)), short)
  ]

  pub met-below : {n : ℕ} → Below n waiting → Below n q
  unfolding member
  met-below {n} b = elim (dec_lt (length waiting + 1) size) [
    | yes l ↦ rw (m.early l) (λ w e. absurd (let k : ◌≡◌ {A = ℕ} 0 1 = cc in omega arith))
    | no l ↦ rw (m.late (omega arith)) (below-keep n _ waiting b)
  ]

pub one-below : {n w : ℕ} → w < n → Below n (w ∷ [])
one-below {n} {w} h v m = omega (arith, h, eqb-true v w (sym (member-one v w) ∙ m))

-- the queue of a condition or a barrier, by the fates' codes
pub queue-coded :
    (s : State) (fates : List ℕ) (q : QueueName)
    → ((w : ℕ) → member w s.waiting ≡ true → get_or fates w 0 ≡ fate_code (worker_at s w).fate)
    → found fates s.waiting (fate_code (waiting q)) ≡ queue_of s q
unfolding queue_of
queue-coded s fates q coded =
    keep_same (λ w. eqb (get_or fates w 0) (fate_code (waiting q))) (λ w. waits_on q (worker_at s w).fate) s.waiting
    (λ w m. ap (λ (k : ℕ). eqb k (fate_code (waiting q))) (coded w m) ∙ code_same (worker_at s w).fate q)
