-- Sums of words: a stretch parted in two, the same bytes, all of memory, and a block of it.
use Prim.Native.Nat.{ℕ, zero, suc, ◌+◌, ◌-◌, ◌*◌, ◌/◌, ◌%◌, ◌<◌, ◌≤◌}
use native.Mathlib.Omega.{arith}
use native.Mathlib.Nat.{mul-zero, mul-suc}
use native.Mathlib.Numerals.{add-one}
use mathlib.Core.Logic.{inl, inr}
use mathlib.Core.Path.{◌≡◌, refl, sym, ap, ◌∙◌}
use mathlib.Core.List.{List, [], ◌∷◌}
use lib.ListN.{length, get_or, drop}
use lib.Seq.{get_or-take, get_or-drop}
use Rattle.std.specs.Simd.{first_chunks}
use Rattle.protocol.specs.Format.{word}
use Rattle.protocol.specs.Calls.{memory_length}
use Rattle.protocol.specs.Sum.{sum_of}
use Rattle.protocol.proofs.Sums.{sum-small}
use Rattle.words.specs.Bytes.{word_at}
use Rattle.commits.specs.Blocks.{block_size, block_words, words_from, BytesWritten, Summed}

pub words-none : (memory : List ℕ) (a : ℕ) → words_from memory a 0 ≡ 0
unfolding words_from
words-none memory a = refl

pub words_more : (memory : List ℕ) (a k : ℕ) → words_from memory a (k + 1) ≡ words_from memory a k + word_at memory (a + 2 * k)
unfolding words_from
words_more memory a k = ap (λ (n : ℕ). words_from memory a n) (add-one k)

-- a stretch is its first j words and those behind them
pub words-parted : (memory : List ℕ) (a j k : ℕ) → words_from memory a (j + k) ≡ words_from memory a j + words_from memory (a + 2 * j) k
unfolding words_from
words-parted memory a j zero = let e : j + 0 ≡ j = omega arith in ap (λ (n : ℕ). words_from memory a n) e ∙ omega arith
words-parted memory a j (suc k) =
    let e : j + suc k ≡ suc (j + k) = omega arith in
    let place : a + 2 * (j + k) ≡ a + 2 * j + 2 * k = omega arith in
    ap (λ (n : ℕ). words_from memory a n) e
    ∙ omega (arith, words-parted memory a j k, ap (λ (n : ℕ). word_at memory n) place)

-- ---- bytes as chunks of n

pub chunk_at : (n k : ℕ) (xs : List ℕ) (i j : ℕ) → i < k → j < n → get_or (get_or (first_chunks n k xs) i []) j 0 ≡ get_or xs (n * i + j) 0
chunk_at n zero xs i j h l = absurd (omega arith)
chunk_at n (suc k) xs zero j h l = let e : j ≡ n * 0 + j = omega (arith, mul-zero n) in get_or-take n xs j 0 l ∙ ap (λ (o : ℕ). get_or xs o 0) e
chunk_at n (suc k) xs (suc i) j h l =
    let e : n + (n * i + j) ≡ n * suc i + j = omega (arith, mul-suc n i) in
    chunk_at n k (drop n xs) i j (omega arith) l ∙ get_or-drop n xs (n * i + j) 0 ∙ ap (λ (o : ℕ). get_or xs o 0) e

module _ (block : List ℕ) (k : ℕ) (chunks : List (List ℕ)) (are : chunks ≡ first_chunks 2 k block) (i : ℕ) (h : i < k) where
  byte_of : (j : ℕ) → j < 2 → get_or (get_or chunks i []) j 0 ≡ get_or block (2 * i + j) 0
  byte_of j l = ap (λ (cs : List (List ℕ)). get_or (get_or cs i []) j 0) are ∙ chunk_at 2 k block i j h l

  pub word_of : word (get_or (get_or chunks i []) 0 0) (get_or (get_or chunks i []) 1 0) ≡ word_at block (0 + 2 * i)
  word_of =
      let low : 2 * i + 0 ≡ 0 + 2 * i = omega arith in
      let high : 2 * i + 1 ≡ 0 + 2 * i + 1 = omega arith in
      omega (
        arith,
        byte_of 0 (omega arith),
        byte_of 1 (omega arith),
        ap (λ (x : ℕ). get_or block x 0) low,
        ap (λ (x : ℕ). get_or block x 0) high,
      )

-- the same bytes, wherever they stand, the same sum
pub words_same : (xs ys : List ℕ) (a b k : ℕ) → ((i : ℕ) → i < 2 * k → get_or ys (b + i) 0 ≡ get_or xs (a + i) 0) → words_from ys b k ≡ words_from xs a k
unfolding words_from
words_same xs ys a b zero same = refl
words_same xs ys a b (suc k) same =
    let theirs : b + (2 * k + 1) ≡ b + 2 * k + 1 = omega arith in
    let mine : a + (2 * k + 1) ≡ a + 2 * k + 1 = omega arith in
    omega (
      arith,
      words_same xs ys a b k (λ i h. same i (omega arith)),
      same (2 * k) (omega arith),
      same (2 * k + 1) (omega arith),
      ap (λ (n : ℕ). get_or ys n 0) theirs,
      ap (λ (n : ℕ). get_or xs n 0) mine,
    )

-- the words of a block, and of the stretch that it is
pub block_same : (xs block : List ℕ) (a k : ℕ) → ((i : ℕ) → i < 2 * k → get_or block i 0 ≡ get_or xs (a + i) 0) → words_from block 0 k ≡ words_from xs a k
block_same xs block a k same = words_same xs block a 0 k (λ i h. (let e : 0 + i ≡ i = omega arith in ap (λ (n : ℕ). get_or block n 0) e) ∙ same i h)

-- ---- all of memory

behind-two : (x y : ℕ) (rest : List ℕ) (i j : ℕ) → j ≡ suc (suc i) → get_or (x ∷ y ∷ rest) j 0 ≡ get_or rest i 0
behind-two x y rest i j e = ap (λ (n : ℕ). get_or (x ∷ y ∷ rest) n 0) e

front : (x y : ℕ) (rest : List ℕ) (k : ℕ) → words_from (x ∷ y ∷ rest) 0 (suc k) ≡ word x y + words_from rest 0 k
unfolding words_from
front x y rest zero = omega arith
front x y rest (suc k) =
    let low = behind-two x y rest (0 + 2 * k) (0 + 2 * suc k) (omega arith) in
    let high = behind-two x y rest (0 + 2 * k + 1) (0 + 2 * suc k + 1) (omega arith) in
    omega (arith, front x y rest k, low, high)

pub words-all : (n : ℕ) (memory : List ℕ) → length memory ≡ 2 * n → sum_of memory ≡ words_from memory 0 n
unfolding sum_of words_from
words-all zero [] e = refl
words-all (suc n) [] e = absurd (omega arith)
words-all zero (x ∷ []) e = absurd (omega arith)
words-all (suc n) (x ∷ []) e = absurd (omega arith)
words-all zero (x ∷ y ∷ rest) e = absurd (omega arith)
words-all (suc n) (x ∷ y ∷ rest) e = ap (λ (k : ℕ). word x y + k) (words-all n rest (omega arith)) ∙ sym (front x y rest n)

-- ---- a block

module _ (memory : List ℕ) (n : length memory ≡ memory_length) where
  -- the words before a block, its own, and those behind it
  sum-parted : (at : ℕ) → at % 2 ≡ 0 → at + block_size ≤ memory_length
      → sum_of memory
      ≡ words_from memory 0 (at / 2) + (words_from memory at block_words + words_from memory (at + block_size) (1024 - block_words - at / 2))
  sum-parted at whole inside =
      let all : 1024 ≡ at / 2 + (block_words + (1024 - block_words - at / 2)) = omega arith in
      let place : 0 + 2 * (at / 2) ≡ at = omega arith in
      words-all 1024 memory n
      ∙ ap (λ (k : ℕ). words_from memory 0 k) all
      ∙ words-parted memory 0 (at / 2) _
      ∙ ap (λ (a : ℕ). words_from memory 0 (at / 2) + words_from memory a (block_words + (1024 - block_words - at / 2))) place
      ∙ ap (λ (k : ℕ). words_from memory 0 (at / 2) + k) (words-parted memory at block_words _)

  -- a block is a part of memory
  pub block_counted : (at : ℕ) → at % 2 ≡ 0 → at + block_size ≤ memory_length → words_from memory at block_words ≤ sum_of memory
  block_counted at whole inside = omega (arith, sum-parted at whole inside)

-- a block that is written moves the sum by as much as its own words moved
pub block-moves : (first at : ℕ) (work memory memory' : List ℕ) → length memory ≡ memory_length → first % 2 ≡ 0 → first + block_size ≤ memory_length
    → BytesWritten first at block_size work memory memory'
    → sum_of memory' + words_from memory first block_words ≡ sum_of memory + words_from memory' first block_words
block-moves first at work memory memory' n whole inside written =
    omega (
      arith,
      sum-parted memory n first whole inside,
      sum-parted memory' (written.size ∙ n) first whole inside,
      words_same memory memory' 0 0 (first / 2) (λ i h. written.elsewhere (0 + i) (inl (omega arith))),
      words_same memory memory' (first + block_size) (first + block_size) (1024 - block_words - first / 2)
          (λ i h. written.elsewhere (first + block_size + i) (inr (omega arith))),
    )

-- a sum of bytes is within the limit
pub summed : (memory : List ℕ) (sum : ℕ) → length memory ≡ memory_length → ((i : ℕ) → get_or memory i 0 < 256) → sum ≡ sum_of memory → Summed memory sum
summed memory sum n small e = record { afresh = e; most = omega (arith, e, sum-small memory small 1024 (omega (arith, n))) }
