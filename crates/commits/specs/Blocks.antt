-- A block of a page: the sum of its words, and its commit byte by byte.
use Rattle.std.specs.Prelude.{ℕ, zero, suc, ◌+◌, ◌*◌, ◌<◌, ◌≤◌, cond, ◌⊎◌, ◌≡◌, List, eqb, length, get_or}
use Rattle.protocol.specs.Pages.{page_size}
use Rattle.protocol.specs.Sum.{sum_of}
use Rattle.words.specs.Bytes.{word_at}

abbrev pub block_size : ℕ
block_size = 64

abbrev pub block_words : ℕ
block_words = 32

-- the sum of so many words from an address on
unfoldable pub words_from : List ℕ → ℕ → ℕ → ℕ
words_from memory a zero = 0
words_from memory a (suc k) = words_from memory a k + word_at memory (a + 2 * k)

pub record BlockSummed (block : List ℕ) (sum : ℕ) : Type 0 where
  pub words : sum ≡ words_from block 0 block_words
  pub most : sum ≤ 65535 * block_words

-- what stands in shared memory after the commit of one byte, which is b in the working copy and t in its twin
abbrev pub left_of : ℕ → ℕ → ℕ → ℕ
left_of b t shared = cond (eqb b t) shared b

-- Committed are n bytes, those from `at` on in the working copy and from `first` on in shared memory, and no other.
pub record BytesWritten (first at n : ℕ) (work memory memory' : List ℕ) : Type 0 where
  pub here : (i : ℕ) → i < n → get_or memory' (first + i) 0 ≡ left_of (get_or work (at + i) 0) (get_or work (at + page_size + i) 0) (get_or memory (first + i) 0)
  pub elsewhere : (j : ℕ) → (j < first) ⊎ (first + n ≤ j) → get_or memory' j 0 ≡ get_or memory j 0
  pub size : length memory' ≡ length memory

-- The same of one block: its bytes in shared memory, in the working copy and in the twin.
pub record BlockWritten (mine twin shared shared' : List ℕ) : Type 0 where
  pub here : (i : ℕ) → i < block_size → get_or shared' i 0 ≡ left_of (get_or mine i 0) (get_or twin i 0) (get_or shared i 0)
  pub size : length shared' ≡ length shared

-- the sum moves by as much as the block's own words do
abbrev pub BlockMoved : List ℕ → List ℕ → ℕ → ℕ → Type 0
BlockMoved shared shared' sum sum' = sum' + words_from shared 0 block_words ≡ sum + words_from shared' 0 block_words

-- the greatest sum: 1,024 words of 65,535
abbrev pub sum_limit : ℕ
sum_limit = 67107840

-- a sum that is kept
pub record Summed (memory : List ℕ) (sum : ℕ) : Type 0 where
  pub afresh : sum ≡ sum_of memory
  pub most : sum ≤ sum_limit

-- a block whose words are counted in a sum
pub record BlockCounted (shared : List ℕ) (sum : ℕ) : Type 0 where
  pub size : length shared ≡ block_size
  pub counted : words_from shared 0 block_words ≤ sum
  pub most : sum ≤ sum_limit
