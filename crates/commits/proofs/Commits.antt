-- A commit, byte by byte and page by page.
use Prim.Native.Nat.{ℕ, zero, suc, ◌+◌, ◌*◌, ◌<◌, ◌≤◌}
use native.Mathlib.Omega.{arith}
use native.Mathlib.Decide.{ℕ_discrete, dec_lt}
use mathlib.Core.Bool.{Bool, true, false}
use mathlib.Core.Logic.{◌⊎◌, inl, inr}
use mathlib.Core.Path.{◌≡◌, refl, sym, ap, ◌∙◌, subst}
use mathlib.Core.List.{List, [], ◌∷◌}
use lib.ListN.{length, get_or, set, take, length-take, get_or-eq_default}
use lib.Seq.{ext_get_or, get_or-set_same, get_or-set_other, get_or-take}
use Rattle.protocol.specs.Pages.{page_size, page_count, Copy, absent, Copies, no_copies, page_of, offset_of, copy_of, committed, commit_from, commit}
use Rattle.protocol.proofs.Bools.{or_left, or_right}
use Rattle.protocol.proofs.Lists.{get_or-copies}
use Rattle.pages.specs.Copies.{part, slot_of, copy_at, twin_at, slot_copy}
use Rattle.pages.proofs.Parts.{get_or-part}
use Rattle.pages.proofs.Slots.{in_use}
use Rattle.commits.specs.Blocks.{left_of, BytesWritten}
use Rattle.commits.specs.Committing.{any_copied}

-- ---- the first elements of a list, and one more of them

get_or-past : {A : Type 0} (d : A) (l : List A) (i o : ℕ) → i ≤ o → get_or (take i l) o d ≡ d
get_or-past d l i o h = let short : length (take i l) ≤ o = simp length-take (omega arith) in get_or-eq_default (take i l) d short

get_or-more : {A : Type 0} (d : A) (l : List A) (i o : ℕ) → (o ≡ i → ⊥) → get_or (take i l) o d ≡ get_or (take (i + 1) l) o d
get_or-more d l i o ne = elim (dec_lt o i) [
  | yes h ↦ get_or-take i l o d h ∙ sym (get_or-take (i + 1) l o d (omega arith))
  | no h ↦ get_or-past d l i o (omega arith) ∙ sym (get_or-past d l (i + 1) o (omega arith))
]

-- ---- a commit, byte by byte

length_from : (copies : Copies) (a : ℕ) (memory : List ℕ) → length (commit_from copies a memory) ≡ length memory
unfolding commit_from
length_from copies a [] = refl
length_from copies a (x ∷ xs) = ap suc (length_from copies (suc a) xs)

from_at : (copies : Copies) (a : ℕ) (memory : List ℕ) (i : ℕ) → i < length memory
    → get_or (commit_from copies a memory) i 0 ≡ committed (copy_of copies (page_of (a + i))) (offset_of (a + i)) (get_or memory i 0)
unfolding commit_from
from_at copies a [] i h = absurd (omega arith)
from_at copies a (x ∷ xs) zero h =
    let e : a ≡ a + 0 = omega arith in ap (λ (n : ℕ). committed (copy_of copies (page_of n)) (offset_of n) x) e
from_at copies a (x ∷ xs) (suc i) h =
    let e : suc a + i ≡ a + suc i = omega arith in
    from_at copies (suc a) xs i (omega arith) ∙ ap (λ (n : ℕ). committed (copy_of copies (page_of n)) (offset_of n) (get_or xs i 0)) e

module _ (copies : Copies) (memory : List ℕ) where
  pub length-commit : length (commit copies memory) ≡ length memory
  length-commit = length_from copies 0 memory

  pub commit-size : (memory' : List ℕ) → memory' ≡ commit copies memory → length memory' ≡ length memory
  commit-size memory' e = ap length e ∙ length-commit

  -- the byte at an address after the commit
  abbrev at : ℕ → ℕ → ℕ
  at i shared = committed (copy_of copies (page_of i)) (offset_of i) shared

  pub commit-at : (i : ℕ) → i < length memory → get_or (commit copies memory) i 0 ≡ committed (copy_of copies (page_of i)) (offset_of i) (get_or memory i 0)
  commit-at i h = let e : 0 + i ≡ i = omega arith in from_at copies 0 memory i h ∙ ap (λ (n : ℕ). at n (get_or memory i 0)) e

  pub commit-is : (memory' : List ℕ) → length memory' ≡ length memory
      → ((i : ℕ) → i < length memory → get_or memory' i 0 ≡ committed (copy_of copies (page_of i)) (offset_of i) (get_or memory i 0))
      → memory' ≡ commit copies memory
  commit-is memory' n h =
      ext_get_or 0 memory' (commit copies memory) (n ∙ sym length-commit) (λ i b. h i (omega arith) ∙ sym (commit-at i (omega arith)))

pub commit-nothing : (memory : List ℕ) → memory ≡ commit [] memory
commit-nothing memory = commit-is [] memory memory refl (λ i h. refl)

pub commit-none : (memory : List ℕ) → memory ≡ commit no_copies memory
unfolding no_copies
commit-none memory = commit-is no_copies memory memory refl (λ j h.
    ap (λ (k : Copy). committed k (offset_of j) (get_or memory j 0)) (sym (get_or-copies absent page_count (page_of j))))

-- ---- a worker without copies

-- none of k pages is copied
pub none-copied : (marks : List Bool) (w from k : ℕ) → any_copied marks w from k ≡ false → (p : ℕ) → p < k → get_or marks (slot_of w (from + p)) false ≡ false
unfolding any_copied
none-copied marks w from zero e p h = absurd (omega arith)
none-copied marks w from (suc k) e p h =
    elim (ℕ_discrete p k) [
      | yes same ↦ ap (λ (q : ℕ). get_or marks (slot_of w (from + q)) false) same ∙ or_right (any_copied marks w from k) e
      | no other ↦ none-copied marks w from k (or_left (any_copied marks w from k) _ e) p (omega arith)
    ]

-- ---- one page alone

module _ (p : ℕ) (copy : Copy) (h : p < page_count) (j shared : ℕ) where
  on-page : page_of j ≡ p → committed (copy_of (set no_copies p copy) (page_of j)) (offset_of j) shared ≡ committed copy (offset_of j) shared
  unfolding no_copies
  on-page e =
      ap (λ (q : ℕ). committed (copy_of (set no_copies p copy) q) (offset_of j) shared) e
      ∙ ap (λ (k : Copy). committed k (offset_of j) shared) (get_or-set_same no_copies p copy absent h)

  off-page : (page_of j ≡ p → ⊥) → committed (copy_of (set no_copies p copy) (page_of j)) (offset_of j) shared ≡ shared
  unfolding no_copies
  off-page ne =
      ap (λ (k : Copy). committed k (offset_of j) shared)
      (get_or-set_other no_copies p (page_of j) copy absent ne ∙ get_or-copies absent page_count (page_of j))

-- a copy that changes nothing
commit-same : (p : ℕ) → p < page_count → (memory : List ℕ) (copy : Copy) → ((offset shared : ℕ) → committed copy offset shared ≡ shared)
    → memory ≡ commit (set no_copies p copy) memory
commit-same p h memory copy same = commit-is (set no_copies p copy) memory memory refl (λ j b. sym (elim (ℕ_discrete (page_of j) p) [
  | yes e ↦ on-page p copy h j (get_or memory j 0) e ∙ same (offset_of j) (get_or memory j 0)
  | no ne ↦ off-page p copy h j (get_or memory j 0) ne
]))

pub commit-unused : (p : ℕ) → p < page_count → (memory : List ℕ) (copy : Copy) → copy ≡ absent → memory ≡ commit (set no_copies p copy) memory
commit-unused p h memory copy e = commit-same p h memory copy (λ o s. ap (λ (k : Copy). committed k o s) e)

-- all bytes of the page of a slot in use are committed
module _ (p slot : ℕ) (h : p < page_count) (marks : List Bool) (work memory memory' : List ℕ) (on : get_or marks slot false ≡ true)
    (written : BytesWritten (page_size * p) (copy_at slot) page_size work memory memory') where
  byte-there : (j : ℕ) → page_of j ≡ p → get_or memory' j 0 ≡ committed (slot_copy marks work slot) (offset_of j) (get_or memory j 0)
  byte-there j e =
      let place : page_size * p + offset_of j ≡ j = omega arith in
      let o : offset_of j < page_size = omega arith in
      subst
      (λ (n : ℕ). get_or memory' n 0 ≡ left_of (get_or work (copy_at slot + offset_of j) 0) (get_or work (twin_at slot + offset_of j) 0) (get_or memory n 0))
      place
      (written.here (offset_of j) o)
      ∙ ap (λ (b : ℕ). left_of b (get_or work (twin_at slot + offset_of j) 0) (get_or memory j 0)) (sym (get_or-part (copy_at slot) work (offset_of j) o))
      ∙ ap (λ (t : ℕ). left_of (get_or (part (copy_at slot) work) (offset_of j) 0) t (get_or memory j 0)) (sym (get_or-part (twin_at slot) work (offset_of j) o))
      ∙ ap (λ (k : Copy). committed k (offset_of j) (get_or memory j 0)) (sym (in_use marks work slot on))

  away : (j : ℕ) → (page_of j ≡ p → ⊥) → (j < page_size * p) ⊎ (page_size * p + page_size ≤ j)
  away j ne = elim (dec_lt (page_of j) p) [ yes l ↦ inl (omega arith) | no l ↦ inr (omega arith) ]

  pub page-written : memory' ≡ commit (set no_copies p (slot_copy marks work slot)) memory
  page-written = commit-is (set no_copies p (slot_copy marks work slot)) memory memory' written.size (λ j b. elim (ℕ_discrete (page_of j) p) [
    | yes e ↦ byte-there j e ∙ sym (on-page p (slot_copy marks work slot) h j (get_or memory j 0) e)
    | no ne ↦ written.elsewhere j (away j ne) ∙ sym (off-page p (slot_copy marks work slot) h j (get_or memory j 0) ne)
  ])

-- ---- a turn of the loop over the pages

module _ (copies : Copies) (memory : List ℕ) (p : ℕ) (h : p < page_count) where
  page-more : commit (set no_copies p (copy_of copies p)) (commit (take p copies) memory) ≡ commit (take (p + 1) copies) memory
  page-more =
      commit-is (take (p + 1) copies) memory _ (length-commit (set no_copies p (copy_of copies p)) before ∙ length-commit (take p copies) memory) each
    where
      before : List ℕ
      before = commit (take p copies) memory

      here : (j : ℕ) → page_of j ≡ p → j < length memory
          → committed (copy_of copies p) (offset_of j) (get_or before j 0) ≡ committed (copy_of (take (p + 1) copies) (page_of j)) (offset_of j) (get_or memory j 0)
      here j e b =
          ap (λ (s : ℕ). committed (copy_of copies p) (offset_of j) s)
          (commit-at (take p copies) memory j b
          ∙ ap (λ (k : Copy). committed k (offset_of j) (get_or memory j 0)) (get_or-past absent copies p (page_of j) (omega arith)))
          ∙ ap (λ (k : Copy). committed k (offset_of j) (get_or memory j 0))
          (sym (get_or-take (p + 1) copies (page_of j) absent (omega arith) ∙ ap (λ (q : ℕ). copy_of copies q) e))

      each : (j : ℕ) → j < length memory
          → get_or (commit (set no_copies p (copy_of copies p)) before) j 0 ≡ committed (copy_of (take (p + 1) copies) (page_of j)) (offset_of j) (get_or memory j 0)
      each j b =
          commit-at (set no_copies p (copy_of copies p)) before j (rw (length-commit (take p copies) memory) b)
          ∙ elim (ℕ_discrete (page_of j) p) [
            | yes e ↦ on-page p (copy_of copies p) h j (get_or before j 0) e ∙ here j e b
            | no ne ↦
                off-page p (copy_of copies p) h j (get_or before j 0) ne
                ∙ commit-at (take p copies) memory j b
                ∙ ap (λ (k : Copy). committed k (offset_of j) (get_or memory j 0)) (get_or-more absent copies p (page_of j) ne)
          ]

  pub pages-more : (copy : Copy) (m m' : List ℕ) → copy_of copies p ≡ copy → m ≡ commit (take p copies) memory
      → m' ≡ commit (set no_copies p copy) m → m' ≡ commit (take (p + 1) copies) memory
  pages-more copy m m' e f g =
      g
      ∙ ap (λ (k : Copy). commit (set no_copies p k) m) (sym e)
      ∙ ap (λ (l : List ℕ). commit (set no_copies p (copy_of copies p)) l) f
      ∙ page-more

-- pages of which there are no copies
pub pages-none : (copies : Copies) (start m : List ℕ) (from k : ℕ) → from + k ≤ page_count → ((p : ℕ) → p < k → copy_of copies (from + p) ≡ absent)
    → m ≡ commit (take from copies) start → m ≡ commit (take (from + k) copies) start
pages-none copies start m from zero h none e = let same : from ≡ from + 0 = omega arith in e ∙ ap (λ (n : ℕ). commit (take n copies) start) same
pages-none copies start m from (suc k) h none e =
    let next : from + k + 1 ≡ from + suc k = omega arith in
    pages-more copies start (from + k) (omega arith) absent m m (none k (omega arith))
    (pages-none copies start m from k (omega arith) (λ p b. none p (omega arith)) e)
    (commit-unused (from + k) (omega arith) m absent refl)
    ∙ ap (λ (n : ℕ). commit (take n copies) start) next
