-- Document 01, "Pages": a worker's copies, load, store and commit. All of it is said of an arbitrary page.
use Rattle.std.specs.Prelude.{ℕ, suc, ◌+◌, ◌*◌, ◌/◌, ◌%◌, cond, List, [], ◌∷◌, eqb, get_or, set, take, drop, replicate}
use Rattle.protocol.specs.Format.{word}

-- "A page is 256 bytes and there are eight of them."
abbrev pub page_size : ℕ
page_size = 256

abbrev pub page_count : ℕ
page_count = 8

abbrev pub page_of : ℕ → ℕ
page_of address = address / page_size

abbrev pub offset_of : ℕ → ℕ
offset_of address = address % page_size

unfoldable pub page : List ℕ → ℕ → List ℕ
page memory p = take page_size (drop (page_size * p) memory)

-- What a worker has of a page: nothing, or "a working copy and its twin".
pub data Copy : Type 0 where
  absent : Copy
  copied : List ℕ → List ℕ → Copy

-- one for each page
abbrev pub Copies : Type 0
Copies = List Copy

unfoldable pub no_copies : Copies
no_copies = replicate page_count absent

abbrev pub copy_of : Copies → ℕ → Copy
copy_of copies p = get_or copies p absent

-- "A load reads the worker's copy of a page if it has one, else shared memory."
abbrev pub loaded : Copy → ℕ → ℕ → ℕ
loaded absent offset shared = shared
loaded (copied working twin) offset shared = get_or working offset 0

unfoldable pub load_byte : List ℕ → Copies → ℕ → ℕ
load_byte memory copies a = loaded (copy_of copies (page_of a)) (offset_of a) (get_or memory a 0)

unfoldable pub load_word : List ℕ → Copies → ℕ → ℕ
load_word memory copies a = word (load_byte memory copies a) (load_byte memory copies (a + 1))

-- "A worker's first store into a page copies that page twice: a working copy and its twin."
abbrev pub opened : List ℕ → Copy → Copy
opened bytes absent = copied bytes bytes
opened bytes (copied working twin) = copied working twin

abbrev pub stored : Copy → ℕ → ℕ → Copy
stored absent offset byte = absent
stored (copied working twin) offset byte = copied (set working offset byte) twin

unfoldable pub store_byte : List ℕ → Copies → ℕ → ℕ → Copies
store_byte memory copies a byte =
    set copies (page_of a)
    (stored (opened (page memory (page_of a)) (copy_of copies (page_of a))) (offset_of a) byte)

-- "load, store two bytes at address"; "a store at address 255 touches two pages"
unfoldable pub store_word : List ℕ → Copies → ℕ → ℕ → Copies
store_word memory copies a number = store_byte memory (store_byte memory copies a (number % 256)) (a + 1) (number / 256)

-- "Commit: for each copied page, every byte whose working copy differs from its twin is written to shared memory, no other byte"
abbrev pub committed : Copy → ℕ → ℕ → ℕ
committed absent offset shared = shared
committed (copied working twin) offset shared =
    cond (eqb (get_or working offset 0) (get_or twin offset 0)) shared (get_or working offset 0)

-- the shared bytes from an address on, after the commit
unfoldable pub commit_from : Copies → ℕ → List ℕ → List ℕ
commit_from copies a [] = []
commit_from copies a (shared ∷ rest) =
    committed (copy_of copies (page_of a)) (offset_of a) shared ∷ commit_from copies (suc a) rest

abbrev pub commit : Copies → List ℕ → List ℕ
commit copies memory = commit_from copies 0 memory
