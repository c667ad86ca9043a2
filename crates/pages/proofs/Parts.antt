-- A page's worth of a list, after a store and after a copy, and a stretch that is written over: there, or elsewhere.
use Prim.Native.Nat.{ℕ, ◌+◌, ◌-◌, ◌<◌, ◌≤◌}
use native.Mathlib.Decide.{dec_lt}
use native.Mathlib.Omega.{arith}
use mathlib.Core.Path.{◌≡◌, sym, ap, ◌∙◌, subst}
use mathlib.Core.Logic.{◌⊎◌, inl, inr}
use mathlib.Core.List.{List, ◌++◌, append_assoc}
use lib.ListN.{length, get_or, set, take, drop, length-take, length-drop, get_or-append, take-append-drop, get_or-eq_default}
use lib.Seq.{take-append-le, drop-append-le, length-take-le, take_at, drop_at, drop-drop, drop-paste, paste}
use lib.Seq.{take-set-lt, take-set-le, drop-set-add, drop-set-lt, get_or-take, get_or-drop, get_or-set_same, set_out}
use borrow.Rule.Slice.PartMut.{put_mid, same_len_mid}
use Rattle.std.proofs.lemmas.Slice.{drop-put_mid}
use Rattle.protocol.specs.Pages.{page_size}
use Rattle.pages.specs.Copies.{part}

-- two places are disjoint: the stretch of n from one, and of a page from the other, have nothing in common
abbrev pub Disjoint : ℕ → ℕ → ℕ → Type 0
Disjoint at n b = (at + n ≤ b) ⊎ (b + page_size ≤ at)

pub get_or-part : (b : ℕ) (l : List ℕ) (i : ℕ) → i < page_size → get_or (part b l) i 0 ≡ get_or l (b + i) 0
get_or-part b l i h = get_or-take page_size (drop b l) i 0 h ∙ get_or-drop b l i 0

-- ---- a store

pub part-set-here : (b : ℕ) (l : List ℕ) (i v : ℕ) → i < page_size → part b (set l (b + i) v) ≡ set (part b l) i v
part-set-here b l i v h = ap (λ (k : List ℕ). take page_size k) (drop-set-add b l i v) ∙ take-set-lt page_size (drop b l) i v h

pub part-set-apart : (b : ℕ) (l : List ℕ) (at v : ℕ) → Disjoint at 1 b → part b (set l at v) ≡ part b l
part-set-apart b l at v (inl h) = ap (λ (k : List ℕ). take page_size k) (drop-set-lt b l at v (omega arith))
part-set-apart b l at v (inr h) =
    subst (λ (k : ℕ). part b (set l k v) ≡ part b l) e
    (ap (λ (k : List ℕ). take page_size k) (drop-set-add b l (at - b) v) ∙ take-set-le page_size (drop b l) (at - b) v (omega arith))
  where
    e : b + (at - b) ≡ at
    e = omega arith

-- the default, stored at any place, is read there
pub get_or-set-default : {A : Type 0} (l : List A) (i : ℕ) (d : A) → get_or (set l i d) i d ≡ d
get_or-set-default {A} l i d = elim (dec_lt i (length l)) [
  | yes h ↦ get_or-set_same l i d d h
  | no h ↦ ap (λ (k : List A). get_or k i d) (set_out l i d (omega arith)) ∙ get_or-eq_default l d (omega arith)
]

-- ---- a copy of n elements

part-front : (b : ℕ) (xs ys : List ℕ) → b + page_size ≤ length xs → part b (xs ++ ys) ≡ part b xs
part-front b xs ys h =
    ap (λ (k : List ℕ). take page_size k) (drop-append-le b xs ys (omega arith))
    ∙ take-append-le page_size (drop b xs) ys (simp length-drop (omega arith))

module _ (d s : List ℕ) (at : ℕ) (inside : at + page_size ≤ length d) (enough : page_size ≤ length s) where
  pub part-paste-here : part at (paste d at s page_size) ≡ take page_size s
  part-paste-here =
      ap (λ (l : List ℕ). part at l) (append_assoc (take at d) (take page_size s) (drop (at + page_size) d))
      ∙ ap (λ (l : List ℕ). take page_size l) (drop_at (take at d) _ at (length-take-le at d (omega arith)))
      ∙ take_at (take page_size s) _ page_size (length-take-le page_size s enough)

  pub part-paste-apart : (b : ℕ) → Disjoint at page_size b → part b (paste d at s page_size) ≡ part b d
  part-paste-apart b (inl h) =
      let past : at + page_size + (b - (at + page_size)) ≡ b = omega arith in
      subst (λ (k : ℕ). part k (paste d at s page_size) ≡ part k d) past
      (ap (λ (l : List ℕ). take page_size l)
      (sym (drop-drop _ (at + page_size) (paste d at s page_size))
      ∙ ap (λ (l : List ℕ). drop (b - (at + page_size)) l) (drop-paste d at s page_size (omega arith) enough)
      ∙ drop-drop _ (at + page_size) d))
  part-paste-apart b (inr h) =
      let fits : b + page_size ≤ length (take at d) = rw (length-take-le at d (omega arith)) h in
      ap (λ (l : List ℕ). part b l) (append_assoc (take at d) (take page_size s) (drop (at + page_size) d))
      ∙ part-front b (take at d) _ fits
      ∙ sym (part-front b (take at d) (drop at d) fits)
      ∙ ap (λ (l : List ℕ). part b l) (take-append-drop at d)

-- ---- a stretch of k elements written over

module _ {X : Type 0} (a k : ℕ) (xs ys : List X) (inside : a + k ≤ length xs) (size : length ys ≡ k) where
  pub length-written : length (put_mid a k xs ys) ≡ length xs
  length-written = same_len_mid a k xs ys (omega (arith, length-take k (drop a xs), length-drop a xs))

  pub written_here : (i : ℕ) (d : X) → i < k → get_or (put_mid a k xs ys) (a + i) d ≡ get_or ys i d
  written_here i d h =
      sym (get_or-drop a (put_mid a k xs ys) i d)
      ∙ ap (λ (l : List X). get_or l i d) (drop_at (take a xs) _ a (length-take-le a xs (omega arith)))
      ∙ get_or-append ys _ d i (omega arith)

  pub written_apart : (i : ℕ) (d : X) → (i < a) ⊎ (a + k ≤ i) → get_or (put_mid a k xs ys) i d ≡ get_or xs i d
  written_apart i d (inl h) =
      get_or-append (take a xs) _ d i (omega (arith, length-take-le a xs)) ∙ get_or-take a xs i d h
  written_apart i d (inr h) =
      let past : a + k + (i - (a + k)) ≡ i = omega arith in
      subst (λ (n : ℕ). get_or (put_mid a k xs ys) n d ≡ get_or xs n d) past
      (sym (get_or-drop (a + k) (put_mid a k xs ys) (i - (a + k)) d)
      ∙ ap (λ (l : List X). get_or l (i - (a + k)) d) (drop-put_mid a k xs ys (a + k) (omega arith) (omega arith) size)
      ∙ get_or-drop (a + k) xs (i - (a + k)) d)
