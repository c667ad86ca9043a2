-- A set of locks with one more, and with one less.
-- Assumes nothing.
use Prim.Native.Nat.{ℕ, zero, suc, ◌+◌, ◌*◌, ◌-◌, ◌/◌, ◌%◌, ◌^◌, ◌≤◌}
use native.Mathlib.Decide.{ℕ_discrete}
use native.Mathlib.Nat.{pow-le-pow_right}
use native.Mathlib.Omega.{arith}
use borrow.Author.Tests.{eqb-true, eq-eqb, ne_eqb}
use mathlib.Core.Bool.{Bool, true, false, cond, ◌||◌}
use mathlib.Core.Path.{◌≡◌, refl, sym, ap, ◌∙◌, subst⁻¹}
use mathlib.Core.List.{List, [], ◌∷◌}
use lib.Dec.{lit<, eqb}
use lib.ListN.{length}
use Rattle.protocol.specs.Rounds.{member, remove}
use Rattle.protocol.specs.Demands.{occurs}
use Rattle.protocol.proofs.Bools.{split}
use Rattle.protocol.proofs.Counting.{clash, member-some}
use Rattle.locks.specs.Set.{weigh, lock_weight, Shows}
use Rattle.locks.proofs.Bits.{halved, here-more, below-same, above_same, other-same}

-- a number shows the locks that another one shows which is the same, however the code works it out
pub shows_by : {n m : ℕ} {locks : List ℕ} → Shows n locks → m ≡ n → Shows m locks
shows_by {locks = locks} s e = subst⁻¹ (λ (i : ℕ). Shows i locks) e s

-- whatever the locks weigh, one that is removed takes its weight along
removed : (f : ℕ → ℕ) (k : ℕ) (ks : List ℕ) → member k ks ≡ true → f k + weigh f (remove k ks) ≡ weigh f ks
unfolding weigh member remove
removed f k [] m = clash m
removed f k (j ∷ js) m = go (eqb k j) refl m (removed f k js)
  where
    go : (b : Bool) → eqb k j ≡ b → (b || member k js) ≡ true → (member k js ≡ true → f k + weigh f (remove k js) ≡ weigh f js)
        → f k + weigh f (cond b js (j ∷ remove k js)) ≡ f j + weigh f js
    go true e m h = ap (λ (i : ℕ). f i + weigh f js) (eqb-true k j e)
    go false e m h = omega (arith, h m)

weigh-length : (ks : List ℕ) → weigh (λ k. 1) ks ≡ length ks
unfolding weigh
weigh-length [] = refl
weigh-length (k ∷ ks) = omega (arith, weigh-length ks)

weigh-occurs : (j : ℕ) (ks : List ℕ) → weigh (λ k. cond (eqb j k) 1 0) ks ≡ occurs j ks
unfolding weigh occurs
weigh-occurs j [] = refl
weigh-occurs j (k ∷ ks) = ap (λ (n : ℕ). cond (eqb j k) 1 0 + n) (weigh-occurs j ks)

removed-length : (k : ℕ) (ks : List ℕ) → member k ks ≡ true → 1 + length (remove k ks) ≡ length ks
removed-length k ks m = omega (arith, removed (λ j. 1) k ks m, weigh-length ks, weigh-length (remove k ks))

removed-occurs : (j k : ℕ) (ks : List ℕ) → member k ks ≡ true → cond (eqb j k) 1 0 + occurs j (remove k ks) ≡ occurs j ks
removed-occurs j k ks m = rw (← weigh-occurs j ks, ← weigh-occurs j (remove k ks)) (removed (λ i. cond (eqb j i) 1 0) k ks m)

not-member : (k : ℕ) (ks : List ℕ) → member k ks ≡ false → occurs k ks ≡ 0
unfolding member occurs
not-member k [] m = refl
not-member k (j ∷ js) m = go (eqb k j) m (not-member k js)
  where
    go : (b : Bool) → (b || member k js) ≡ false → (member k js ≡ false → occurs k js ≡ 0) → cond b 1 0 + occurs k js ≡ 0
    go true m h = clash (sym m)
    go false m h = omega (arith, h m)

-- the marks and the size of a number to which a lock's weight is added
module _ (n k : ℕ) (small : k ≤ 15) (free : n / 2 ^ k % 2 ≡ 0) where
  size-more : (n + 2 ^ k + 65536) / 65536 ≡ n / 65536 + 1
  size-more = omega (arith, above_same k 16 n (omega arith) free)

  over-marks : (j : ℕ) → j ≤ 15 → (n + 2 ^ k + 65536) / 2 ^ j % 2 ≡ (n + 2 ^ k) / 2 ^ j % 2
  over-marks j h = below-same 16 j (n + 2 ^ k) (omega arith)

  mark-more : (j : ℕ) → j ≤ 15 → (n + 2 ^ k + 65536) / 2 ^ j % 2 ≡ cond (eqb j k) 1 0 + n / 2 ^ j % 2
  mark-more j h = elim (ℕ_discrete j k) [
    | yes e ↦ rw (e, eq-eqb k k refl) (omega (arith, over-marks k small, here-more k n))
    | no ne ↦ rw (ne_eqb j k ne) (omega (arith, over-marks j h, other-same k j n ne free))
  ]

-- one more
pub more : {n : ℕ} (k : ℕ) {locks : List ℕ} → k ≤ 15 → Shows n locks → member k locks ≡ false → Shows (n + 2 ^ k + 65536) (k ∷ locks)
unfolding weigh occurs
more {n} k {locks} small s m =
    record {
      total = omega (arith, s.total);
      marks = λ j h. mark-more n k small free j h ∙ ap (λ (i : ℕ). cond (eqb j k) 1 0 + i) (s.marks j h);
      size = omega (arith, size-more n k small free, s.size);
    }
  where
    free : n / 2 ^ k % 2 ≡ 0
    free = s.marks k small ∙ not-member k locks m

-- one less
module _ {n : ℕ} (k : ℕ) {locks : List ℕ} (small : k ≤ 15) (s : Shows n locks) (m : member k locks ≡ true) where
  abbrev left : List ℕ
  left = remove k locks

  abbrev rest : ℕ
  rest = weigh lock_weight left

  taken : n ≡ rest + 2 ^ k + 65536
  taken = omega (arith, s.total, removed lock_weight k locks m)

  pub enough : 2 ^ k + 65536 ≤ n
  enough = omega (arith, taken)

  marked : n / 2 ^ k % 2 ≡ 1
  marked = omega (arith, s.marks k small, member-some k locks m)

  free : rest / 2 ^ k % 2 ≡ 0
  free =
      omega (
        arith,
        marked,
        ap (λ (i : ℕ). i / 2 ^ k % 2) taken,
        below-same 16 k (rest + 2 ^ k) (omega arith),
        here-more k rest,
      )

  fewer : (j : ℕ) → j ≤ 15 → cond (eqb j k) 1 0 + rest / 2 ^ j % 2 ≡ cond (eqb j k) 1 0 + occurs j left
  fewer j h =
      sym (mark-more rest k small free j h)
      ∙ ap (λ (i : ℕ). i / 2 ^ j % 2) (sym taken)
      ∙ s.marks j h
      ∙ sym (removed-occurs j k locks m)

  pub less : Shows (n - 2 ^ k - 65536) left
  less =
      let e : n - 2 ^ k - 65536 ≡ rest = omega (arith, taken) in
      rw e
      record {
        total = refl;
        marks = λ j h. omega (arith, fewer j h);
        size = omega (arith, size-more rest k small free, ap (λ (i : ℕ). i / 65536) taken, s.size, removed-length k locks m);
      }

-- none
pub no-lock : Shows 0 []
unfolding weigh occurs
no-lock = record { total = refl; marks = λ k h. zero-mark k; size = refl }
  where
    zero-mark : (k : ℕ) → 0 / 2 ^ k % 2 ≡ 0
    zero-mark zero = refl
    zero-mark (suc k) = ap (λ (i : ℕ). i % 2) (halved 0 k) ∙ zero-mark k

-- the number is 0 just where none is held
pub empty-same : {n : ℕ} (locks : List ℕ) → Shows n locks → eqb n 0 ≡ eqb (length locks) 0
unfolding weigh
empty-same {n} [] s = ap (λ (i : ℕ). eqb i 0) s.total
empty-same {n} (k ∷ ks) s = ne_eqb n 0 (λ z. positive (2 ^ k) (sym z ∙ s.total)) ∙ sym (ne_eqb (suc (length ks)) 0 (λ z. absurd (omega (arith, z))))
  where
    positive : (i : ℕ) → 0 ≡ i + 65536 + weigh lock_weight ks → ⊥
    positive i e = omega arith

-- a lock's mark, as a shift makes it
pub mark-small : (k : ℕ) → k ≤ 15 → 2 ^ k ≤ 32768
mark-small k h = pow-le-pow_right {n = 2} (lit< tt) {i = k} {j = 15} h

pub mark-shifted : (k : ℕ) → k ≤ 15 → 1 * 2 ^ k % 18446744073709551616 ≡ 2 ^ k
mark-shifted k h = omega (arith, mark-small k h)

-- whether a lock is held, by its mark
pub mark-held : {n : ℕ} (k : ℕ) (locks : List ℕ) → k ≤ 15 → Shows n locks → eqb (n / 2 ^ k % 2) 1 ≡ member k locks
mark-held {n} k locks small s =
    split (member k locks)
    (λ m. eq-eqb (n / 2 ^ k % 2) 1 (omega (arith, s.marks k small, member-some k locks m)) ∙ sym m)
    (λ m. ne_eqb (n / 2 ^ k % 2) 1 (λ e. absurd (omega (arith, e, s.marks k small, not-member k locks m))) ∙ sym m)
