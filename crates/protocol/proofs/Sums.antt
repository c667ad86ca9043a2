-- The sum that is kept equals the sum worked out afresh, after any list of turns: a law over one commit, and an induction.
use Prim.Native.Nat.{ℕ, zero, suc, ◌+◌, ◌-◌, ◌*◌, ◌/◌, ◌%◌, ◌<◌, ◌≤◌}
use native.Mathlib.Omega.{arith}
use mathlib.Core.Bool.{Bool, true, false, cond}
use mathlib.Core.Path.{◌≡◌, refl, sym, ap, ◌∙◌}
use mathlib.Core.List.{List, [], ◌∷◌}
use lib.ListN.{length, get_or}
use Rattle.protocol.specs.Format.{Step, own, sync, Plan, word, count_from}
use Rattle.protocol.specs.Pages.{Copies, commit_from, commit}
use Rattle.protocol.specs.Steps.{step_at}
use Rattle.protocol.specs.Rounds.{State, worker_at, queue_of, fate_in, rule_of, Uncommitted, kept, committed, lost, memory_after, apply, sync_move, new_round}
use Rattle.protocol.specs.Turns.{start, behind, closing, closed, move_by, can, move, turn, play}
use Rattle.protocol.specs.Report.{report_bytes}
use Rattle.protocol.specs.Calls.{buffers_of}
use Rattle.protocol.specs.Sum.{sum_of, moved_by, weight, share_from, commit_change, settled_change, change_by, move_change, kept_sum}
use Rattle.protocol.specs.Demands.{SumKept, SumShown}

-- ---- one commit

even-weight : (a : ℕ) → a % 2 ≡ 0 → weight a ≡ 1
even-weight a e = rw e refl

odd-weight : (a : ℕ) → a % 2 ≡ 0 → weight (suc a) ≡ 256
odd-weight a e = let odd : suc a % 2 ≡ 1 = omega arith in rw odd refl

module _ (copies : Copies) where
  abbrev raised_from : ℕ → List ℕ → ℕ
  raised_from a memory = share_from (λ old new. new - old) copies a memory

  abbrev lowered_from : ℕ → List ℕ → ℕ
  lowered_from a memory = share_from (λ old new. old - new) copies a memory

  -- what is added and what is taken away, from an even address on; and no more is taken away than there is
  moved-from : (a : ℕ) (memory : List ℕ) → a % 2 ≡ 0
      → (sum_of (commit_from copies a memory) + lowered_from a memory ≡ sum_of memory + raised_from a memory) × (lowered_from a memory ≤ sum_of memory)
  unfolding sum_of share_from commit_from
  moved-from a [] e = (refl, omega arith)
  moved-from a (x ∷ []) e = rw (even-weight a e) (omega arith, omega arith)
  moved-from a (x ∷ y ∷ rest) e =
      let (same, most) = moved-from (suc (suc a)) rest (omega arith) in
      rw (even-weight a e, odd-weight a e) (omega (arith, same), omega (arith, most))

  pub commit-moves : (memory : List ℕ) → sum_of (commit copies memory) ≡ moved_by (commit_change copies memory) (sum_of memory)
  commit-moves memory = let (same, most) = moved-from 0 memory refl in omega (arith, same, most)

pub settle-moves : (b : Uncommitted) (copies : Copies) (memory : List ℕ)
    → sum_of (memory_after b copies memory) ≡ moved_by (settled_change b copies memory) (sum_of memory)
settle-moves kept copies memory = omega arith
settle-moves committed copies memory = commit-moves copies memory
settle-moves lost copies memory = omega arith

-- ---- one move, and a list of turns

pub closed-memory : (s : State) → (closed s).memory ≡ s.memory
unfolding new_round
closed-memory s = go s.list
  where
    go : (l : List ℕ) → (closing l s).memory ≡ s.memory
    go [] = refl
    go (w ∷ ws) = refl

pub move-moves : (plan : Plan) (s : State) (w : ℕ) → sum_of (move plan s w).memory ≡ moved_by (move_change plan s w) (sum_of s.memory)
unfolding move move_change apply
move-moves plan s w = go (step_at plan w (worker_at s w).place) (worker_at s w).arrived
  where
    go : (y : Step) (here : Bool) → sum_of (move_by plan y here w s).memory ≡ moved_by (change_by plan y here w s) (sum_of s.memory)
    go (own o) here = omega arith
    go (sync y) false = omega arith
    go (sync y) true =
        ap sum_of (closed-memory (sync_move plan y w (behind s.list) s))
        ∙ settle-moves (rule_of plan (queue_of s) (fate_in s) (worker_at s w).held y).bytes (worker_at s w).copies s.memory

pub kept-afresh : (plan : Plan) (s : State) (turns : List ℕ) → kept_sum plan s (sum_of s.memory) turns ≡ sum_of (play plan s turns).memory
unfolding kept_sum play turn
kept-afresh plan s [] = refl
kept-afresh plan s (w ∷ ws) = ap (λ (n : ℕ). kept_sum plan (turn plan s w) n ws) (sym (go (can s w) refl)) ∙ kept-afresh plan (turn plan s w) ws
  where
    go : (b : Bool) → can s w ≡ b → sum_of (turn plan s w).memory ≡ cond (can s w) (moved_by (move_change plan s w) (sum_of s.memory)) (sum_of s.memory)
    go true e = rw e (move-moves plan s w)
    go false e = rw e refl

pub sum_kept : (plan : Plan) (memory turns : List ℕ) → SumKept plan memory turns
unfolding start
sum_kept plan memory turns = kept-afresh plan (start plan memory) turns

-- ---- the sum of bytes fits the report's four bytes

pub sum-small : (memory : List ℕ) → ((i : ℕ) → get_or memory i 0 < 256) → (n : ℕ) → length memory ≤ 2 * n → sum_of memory ≤ 65535 * n
unfolding sum_of
sum-small [] small n h = omega arith
sum-small (x ∷ []) small zero h = absurd (omega arith)
sum-small (x ∷ []) small (suc n) h = omega (arith, small 0)
sum-small (x ∷ y ∷ rest) small zero h = absurd (omega arith)
sum-small (x ∷ y ∷ rest) small (suc n) h = omega (arith, small 0, small 1, sum-small rest (λ i. small (suc (suc i))) n (omega arith))

four_bytes-word : (k : ℕ) → k < 4294967296 → word (k % 256) (k / 256 % 256) + 65536 * word (k / 65536 % 256) (k / 65536 / 256 % 256) ≡ k
four_bytes-word k h = omega arith

pub sum-shown : (s : State) → sum_of s.memory < 4294967296 → SumShown (buffers_of s)
unfolding report_bytes count_from
sum-shown s h = four_bytes-word (sum_of s.memory) h

-- ---- sums, by what stands at each address

unfoldable sum_by : (ℕ → ℕ) → ℕ → ℕ
sum_by f zero = 0
sum_by f (suc n) = word (f 0) (f 1) + sum_by (λ a. f (suc (suc a))) n

no_bytes : (n : ℕ) → sum_by (λ a. 0) n ≡ 0
unfolding sum_by
no_bytes zero = refl
no_bytes (suc n) = omega (arith, no_bytes n)

by_bytes : (memory : List ℕ) (n : ℕ) → length memory ≤ 2 * n → sum_of memory ≡ sum_by (λ a. get_or memory a 0) n
unfolding sum_of sum_by
by_bytes [] n h = sym (no_bytes n)
by_bytes (x ∷ []) zero h = absurd (omega arith)
by_bytes (x ∷ []) (suc n) h = omega (arith, no_bytes n)
by_bytes (x ∷ y ∷ rest) zero h = absurd (omega arith)
by_bytes (x ∷ y ∷ rest) (suc n) h = omega (arith, by_bytes rest n (omega arith))

in-balance : (f g h k : ℕ → ℕ) (n : ℕ) → ((a : ℕ) → f a + g a ≡ h a + k a) → sum_by f n + sum_by g n ≡ sum_by h n + sum_by k n
unfolding sum_by
in-balance f g h k zero e = refl
in-balance f g h k (suc n) e =
    omega
    (arith, e 0, e 1, in-balance (λ a. f (suc (suc a))) (λ a. g (suc (suc a))) (λ a. h (suc (suc a))) (λ a. k (suc (suc a))) n (λ a. e (suc (suc a))))

-- two and two memories: what is in balance at each address is so of their sums
pub sums-balance : (p q r s : List ℕ) → ((a : ℕ) → get_or p a 0 + get_or q a 0 ≡ get_or r a 0 + get_or s a 0) → sum_of p + sum_of q ≡ sum_of r + sum_of s
sums-balance p q r s e =
    let n = length p + length q + length r + length s in
    let far = in-balance (λ a. get_or p a 0) (λ a. get_or q a 0) (λ a. get_or r a 0) (λ a. get_or s a 0) n e in
    omega (arith, by_bytes p n (omega arith), by_bytes q n (omega arith), by_bytes r n (omega arith), by_bytes s n (omega arith), far)
