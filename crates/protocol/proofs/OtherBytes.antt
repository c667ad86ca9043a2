-- Each byte that nobody named is taken from another memory, in shared memory, working copies and twins: a law each for load, store and commit.
-- Assumes nothing.
use Prim.Native.Nat.{ℕ, suc, ◌+◌, ◌*◌}
use native.Mathlib.Omega.{arith}
use mathlib.Core.Bool.{true, false, cond}
use mathlib.Core.Path.{◌≡◌, refl, sym, ap, ◌∙◌}
use mathlib.Core.List.{List, [], ◌∷◌}
use borrow.Author.Tests.{eq-eqb}
use lib.ListN.{get_or, set, take, drop}
use Rattle.protocol.specs.Format.{Plan}
use Rattle.protocol.specs.Pages as pages
use Rattle.protocol.specs.Pages.{page_size, page_of, offset_of, page, Copy, absent, copied, Copies, copy_of, opened, stored, load_byte, store_byte, commit_from}
use Rattle.protocol.specs.Named.{named}
use Rattle.protocol.proofs.Bools.{split}
use Rattle.protocol.proofs.Placed.{each_from, each_at, each-blind, each_set, each_take, each-drop}
use Rattle.protocol.proofs.Paired.{Paired, AllPaired}

module _ (plan : Plan) (other : List ℕ) where
  abbrev pub byte_by : ℕ → ℕ → ℕ
  byte_by a x = cond (named plan a) x (get_or other a 0)

  -- bytes of which the first stands at an address
  abbrev pub bytes_by : ℕ → List ℕ → List ℕ
  bytes_by a bytes = each_from byte_by a bytes

  abbrev pub copy_by : ℕ → Copy → Copy
  copy_by p absent = absent
  copy_by p (copied working twin) = copied (bytes_by (page_size * p) working) (bytes_by (page_size * p) twin)

  abbrev pub copies_by : Copies → Copies
  copies_by copies = each_from copy_by 0 copies

  byte-named : (a x : ℕ) → named plan a ≡ true → byte_by a x ≡ x
  byte-named a x hit = rw hit

  pub byte-unnamed : (a x : ℕ) → named plan a ≡ false → byte_by a x ≡ get_or other a 0
  byte-unnamed a x miss = rw miss

  named-at : (a i : ℕ) (bytes : List ℕ) → named plan (a + i) ≡ true → get_or (bytes_by a bytes) i 0 ≡ get_or bytes i 0
  named-at a i bytes hit = each_at byte_by a bytes i 0 (byte-named (a + i) 0 hit) ∙ byte-named (a + i) (get_or bytes i 0) hit

  pub named-from : (a : ℕ) (bytes : List ℕ) → named plan a ≡ true → get_or (bytes_by 0 bytes) a 0 ≡ get_or bytes a 0
  named-from a bytes hit = named-at 0 a bytes (ap (named plan) (omega arith) ∙ hit)

  -- an address is its place in its page
  in-page : (a : ℕ) → page_size * page_of a + offset_of a ≡ a
  in-page a = omega arith

  named-in-page : (a : ℕ) (bytes : List ℕ) → named plan a ≡ true → get_or (bytes_by (page_size * page_of a) bytes) (offset_of a) 0 ≡ get_or bytes (offset_of a) 0
  named-in-page a bytes hit = named-at (page_size * page_of a) (offset_of a) bytes (ap (named plan) (in-page a) ∙ hit)

  copy_at : (copies : Copies) (p : ℕ) → copy_of (copies_by copies) p ≡ copy_by p (copy_of copies p)
  copy_at copies p = each_at copy_by 0 copies p absent refl ∙ ap (λ (k : ℕ). copy_by k (copy_of copies p)) (omega arith)

  -- ---- load

  pub load-alike : (memory : List ℕ) (copies : Copies) (a : ℕ) → named plan a ≡ true → load_byte (bytes_by 0 memory) (copies_by copies) a ≡ load_byte memory copies a
  unfolding load_byte
  load-alike memory copies a hit = rw (copy_at copies (page_of a)) (go (copy_of copies (page_of a)))
    where
      go : (c : Copy) → pages.loaded (copy_by (page_of a) c) (offset_of a) (get_or (bytes_by 0 memory) a 0) ≡ pages.loaded c (offset_of a) (get_or memory a 0)
      go absent = named-from a memory hit
      go (copied working twin) = named-in-page a working hit

  -- ---- store

  page-alike : (memory : List ℕ) (p : ℕ) → page (bytes_by 0 memory) p ≡ bytes_by (page_size * p) (page memory p)
  unfolding page
  page-alike memory p =
      ap (take page_size) (each-drop byte_by 0 (page_size * p) memory ∙ ap (λ (a : ℕ). bytes_by a (drop (page_size * p) memory)) (omega arith))
      ∙ each_take byte_by (page_size * p) page_size (drop (page_size * p) memory)

  set-alike : (a byte : ℕ) (bytes : List ℕ) → named plan a ≡ true
      → set (bytes_by (page_size * page_of a) bytes) (offset_of a) byte ≡ bytes_by (page_size * page_of a) (set bytes (offset_of a) byte)
  set-alike a byte bytes hit =
      sym (each_set byte_by (page_size * page_of a) bytes (offset_of a) byte
      ∙ ap (λ (x : ℕ). set (bytes_by (page_size * page_of a) bytes) (offset_of a) x)
      (ap (λ (k : ℕ). byte_by k byte) (in-page a) ∙ byte-named a byte hit))

  pub store-alike : (memory : List ℕ) (copies : Copies) (a byte : ℕ) → named plan a ≡ true
      → store_byte (bytes_by 0 memory) (copies_by copies) a byte ≡ copies_by (store_byte memory copies a byte)
  unfolding store_byte
  store-alike memory copies a byte hit =
      ap (λ (c : Copy). set (copies_by copies) (page_of a) c)
      (ap (λ (c : Copy). stored (opened (page (bytes_by 0 memory) (page_of a)) c) (offset_of a) byte) (copy_at copies (page_of a))
      ∙ go (copy_of copies (page_of a))
      ∙ ap (λ (k : ℕ). copy_by k (stored (opened (page memory (page_of a)) (copy_of copies (page_of a))) (offset_of a) byte)) (omega arith))
      ∙ sym (each_set copy_by 0 copies (page_of a) _)
    where
      go : (c : Copy) → stored (opened (page (bytes_by 0 memory) (page_of a)) (copy_by (page_of a) c)) (offset_of a) byte
          ≡ copy_by (page_of a) (stored (opened (page memory (page_of a)) c) (offset_of a) byte)
      go absent = rw (page-alike memory (page_of a), set-alike a byte (page memory (page_of a)) hit)
      go (copied working twin) = rw (set-alike a byte working hit)

  -- ---- commit

  commit-byte : (copies : Copies) (a shared : ℕ) → AllPaired copies
      → pages.committed (copy_of (copies_by copies) (page_of a)) (offset_of a) (byte_by a shared) ≡ byte_by a (pages.committed (copy_of copies (page_of a)) (offset_of a) shared)
  commit-byte copies a shared all = rw (copy_at copies (page_of a)) (go (copy_of copies (page_of a)) (all (page_of a)))
    where
      blind : named plan a ≡ false → (x y : ℕ) → byte_by (page_size * page_of a + offset_of a) x ≡ byte_by (page_size * page_of a + offset_of a) y
      blind miss x y = rw (in-page a, miss)

      go : (c : Copy) → Paired c → pages.committed (copy_by (page_of a) c) (offset_of a) (byte_by a shared) ≡ byte_by a (pages.committed c (offset_of a) shared)
      go absent e = refl
      go (copied working twin) e = split (named plan a)
          (λ hit. rw (named-in-page a working hit, named-in-page a twin hit, hit))
          (λ miss.
          let same = each-blind byte_by (page_size * page_of a) working twin (offset_of a) 0 e (blind miss) in
          let twin-byte = get_or (bytes_by (page_size * page_of a) twin) (offset_of a) 0 in
          rw (same, eq-eqb twin-byte twin-byte refl, miss))

  pub commit-alike : (copies : Copies) (a : ℕ) (memory : List ℕ) → AllPaired copies → commit_from (copies_by copies) a (bytes_by a memory) ≡ bytes_by a (commit_from copies a memory)
  unfolding commit_from each_from
  commit-alike copies a [] all = refl
  commit-alike copies a (shared ∷ rest) all =
      ap (λ (x : ℕ). x ∷ commit_from (copies_by copies) (suc a) (bytes_by (suc a) rest)) (commit-byte copies a shared all)
      ∙ ap (λ (xs : List ℕ). byte_by a (pages.committed (copy_of copies (page_of a)) (offset_of a) shared) ∷ xs) (commit-alike copies (suc a) rest all)
