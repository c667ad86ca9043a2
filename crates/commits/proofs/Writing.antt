-- The commit of a stretch of bytes: none, one stretch behind another, and a block in its place.
use Prim.Native.Nat.{ℕ, ◌+◌, ◌-◌, ◌*◌, ◌/◌, ◌%◌, ◌<◌, ◌≤◌}
use native.Mathlib.Omega.{arith}
use native.Mathlib.Decide.{dec_lt}
use mathlib.Core.Logic.{◌⊎◌, inl, inr}
use mathlib.Core.Path.{◌≡◌, refl, sym, ap, ◌∙◌, subst}
use mathlib.Core.List.{List, []}
use lib.ListN.{length, get_or, take, drop, length-take, length-drop}
use lib.Seq.{get_or-take, get_or-drop}
use borrow.Rule.Slice.PartMut.{put_mid}
use Rattle.std.specs.Simd.{first_chunks}
use Rattle.protocol.specs.Pages.{page_size}
use Rattle.protocol.specs.Calls.{memory_length}
use Rattle.protocol.specs.Sum.{sum_of}
use Rattle.pages.proofs.Parts.{length-written, written_here, written_apart}
use Rattle.commits.specs.Blocks.{block_size, block_words, left_of, BytesWritten, BlockWritten, BlockMoved}
use Rattle.commits.proofs.Words.{chunk_at, block_same, block-moves}

-- no byte at all
pub written_none : (first at : ℕ) (work memory : List ℕ) → BytesWritten first at 0 work memory memory
written_none first at work memory = record { here = λ i h. absurd (omega arith); elsewhere = λ j h. refl; size = refl }

module _ (first at : ℕ) (work memory : List ℕ) where
  abbrev left : ℕ → ℕ → ℕ
  left i shared = left_of (get_or work (at + i) 0) (get_or work (at + page_size + i) 0) shared

  -- n bytes behind k of them
  pub written_on : (m m' : List ℕ) (k n : ℕ) → BytesWritten first at k work memory m → BytesWritten (first + k) (at + k) n work m m'
      → BytesWritten first at (k + n) work memory m'
  written_on m m' k n before behind =
      record {
        here = λ i h. elim (dec_lt i k) [
          | yes early ↦ behind.elsewhere (first + i) (inl (omega arith)) ∙ before.here i early
          | no late ↦ subst (λ (x : ℕ). get_or m' (first + x) 0 ≡ left x (get_or memory (first + x) 0)) (sum i late) (later (i - k) (omega arith))
        ];
        elsewhere = λ j h. behind.elsewhere j (outer j h) ∙ before.elsewhere j (inner j h);
        size = behind.size ∙ before.size;
      }
    where
      sum : (i : ℕ) → (i < k → ⊥) → k + (i - k) ≡ i
      sum i late = omega arith

      later : (i : ℕ) → i < n → get_or m' (first + (k + i)) 0 ≡ left (k + i) (get_or memory (first + (k + i)) 0)
      later i h =
          let f : first + (k + i) ≡ first + k + i = omega arith in
          let a : at + (k + i) ≡ at + k + i = omega arith in
          let t : at + page_size + (k + i) ≡ at + k + page_size + i = omega arith in
          rw (f, a, t)
          (behind.here i h
          ∙ ap (λ (s : ℕ). left_of (get_or work (at + k + i) 0) (get_or work (at + k + page_size + i) 0) s) (before.elsewhere (first + k + i) (inr (omega arith))))

      outer : (j : ℕ) → (j < first) ⊎ (first + (k + n) ≤ j) → (j < first + k) ⊎ (first + k + n ≤ j)
      outer j (inl h) = inl (omega arith)
      outer j (inr h) = inr (omega arith)

      inner : (j : ℕ) → (j < first) ⊎ (first + (k + n) ≤ j) → (j < first) ⊎ (first + k ≤ j)
      inner j (inl h) = inl h
      inner j (inr h) = inr (omega arith)

-- ---- a block, written in its place

-- a byte of a block of a page that stands at a place
pub block_byte : (work page : List ℕ) (place n offset : ℕ) (blocks : List (List ℕ)) → ((j : ℕ) → j < page_size → get_or page j 0 ≡ get_or work (place + j) 0)
    → blocks ≡ first_chunks block_size n page
    → offset % block_size ≡ 0 → offset / block_size < n → offset + block_size ≤ page_size
    → (i : ℕ) → i < block_size → get_or (get_or blocks (offset / block_size) []) i 0 ≡ get_or work (place + offset + i) 0
block_byte work page place n offset blocks there are whole h inside i l =
    let here : block_size * (offset / block_size) + i ≡ offset + i = omega arith in
    let behind : place + (offset + i) ≡ place + offset + i = omega arith in
    ap (λ (chunks : List (List ℕ)). get_or (get_or chunks (offset / block_size) []) i 0) are
    ∙ chunk_at block_size n page (offset / block_size) i h l
    ∙ ap (λ (j : ℕ). get_or page j 0) here
    ∙ there (offset + i) (omega arith)
    ∙ ap (λ (j : ℕ). get_or work j 0) behind

module _ (from at n : ℕ) (work memory mine twin shared' : List ℕ) (size : n ≡ block_size) (inside : from + block_size ≤ length memory)
    (is_mine : (i : ℕ) → i < block_size → get_or mine i 0 ≡ get_or work (at + i) 0)
    (is_twin : (i : ℕ) → i < block_size → get_or twin i 0 ≡ get_or work (at + page_size + i) 0)
    (written : BlockWritten mine twin (take n (drop from memory)) shared') where
  written_size : length shared' ≡ n
  written_size = omega (arith, written.size, length-take n (drop from memory), length-drop from memory)

  stood : (i : ℕ) → i < block_size → get_or (take n (drop from memory)) i 0 ≡ get_or memory (from + i) 0
  stood i h = get_or-take n (drop from memory) i 0 (omega arith) ∙ get_or-drop from memory i 0

  stands : (i : ℕ) → i < block_size → get_or (put_mid from n memory shared') (from + i) 0 ≡ get_or shared' i 0
  stands i h = written_here from n memory shared' (omega arith) written_size i 0 (omega arith)

  pub written_in_place : BytesWritten from at block_size work memory (put_mid from n memory shared')
  written_in_place =
      record {
        here = λ i h. stands i h ∙ written.here i h ∙ rw (is_mine i h, is_twin i h, stood i h) refl;
        elsewhere = λ j h. written_apart from n memory shared' (omega arith) written_size j 0 (subst (λ (b : ℕ). (j < from) ⊎ (from + b ≤ j)) (sym size) h);
        size = length-written from n memory shared' (omega arith) written_size;
      }

  -- the sum of all words, moved as the block's own words moved
  pub sum_in_place : length memory ≡ memory_length → from % 2 ≡ 0 → (sum sum' : ℕ) → sum ≡ sum_of memory → BlockMoved (take n (drop from memory)) shared' sum sum'
      → sum' ≡ sum_of (put_mid from n memory shared')
  sum_in_place all whole sum sum' before moved =
      omega (
        arith,
        before,
        moved,
        block-moves from at work memory (put_mid from n memory shared') all whole (omega arith) written_in_place,
        block_same memory (take n (drop from memory)) from block_words (λ i h. stood i h),
        block_same (put_mid from n memory shared') shared' from block_words (λ i h. sym (stands i h)),
      )
