-- Document 01's page copies, as they stand in the marks and the bytes of `work`.
use Rattle.std.specs.Prelude.{ℕ, ◌+◌, ◌*◌, ◌≡◌, Bool, true, false, List, map, length, get_or, take, drop}
use Rattle.protocol.specs.Format.{workers_limit, up_to}
use Rattle.protocol.specs.Calls as calls
use Rattle.protocol.specs.Pages.{page_size, page_count, Copy, absent, copied, Copies}

-- a page's worth of bytes, from a place on
abbrev pub part : ℕ → List ℕ → List ℕ
part at bytes = take page_size (drop at bytes)

-- the bytes that the caller lends
pub record Lent (memory work : List ℕ) : Type 0 where
  pub memory_length : length memory ≡ calls.memory_length
  pub work_length : length work ≡ calls.work_length

-- A slot is a worker's place for one page. Its working copy comes first, then the twin.
abbrev pub slot_count : ℕ
slot_count = workers_limit * page_count

abbrev pub slot_of : ℕ → ℕ → ℕ
slot_of w p = page_count * w + p

abbrev pub copy_at : ℕ → ℕ
copy_at slot = 2 * page_size * slot

abbrev pub twin_at : ℕ → ℕ
twin_at slot = copy_at slot + page_size

abbrev pub marked : Bool → List ℕ → List ℕ → Copy
marked false working twin = absent
marked true working twin = copied working twin

unfoldable pub slot_copy : List Bool → List ℕ → ℕ → Copy
slot_copy marks work slot = marked (get_or marks slot false) (part (copy_at slot) work) (part (twin_at slot) work)

-- worker w's copy of page p
abbrev pub copy_in : List Bool → List ℕ → ℕ → ℕ → Copy
copy_in marks work w p = slot_copy marks work (slot_of w p)

-- the copies of worker w, one for each page
unfoldable pub copies_in : List Bool → List ℕ → ℕ → Copies
copies_in marks work w = map (λ p. copy_in marks work w p) (up_to page_count)

-- One slot holds the given copy, and every other slot what it held.
pub record SlotHolds (slot : ℕ) (copy : Copy) (marks : List Bool) (work : List ℕ) (marks' : List Bool) (work' : List ℕ) : Type 0 where
  pub here : slot_copy marks' work' slot ≡ copy
  pub elsewhere : (s : ℕ) → (s ≡ slot → ⊥) → slot_copy marks' work' s ≡ slot_copy marks work s
  pub size : length work' ≡ length work
  pub mark_size : length marks' ≡ length marks

-- Worker w has the given copies, and every other worker those that it had.
pub record WorkerHolds (w : ℕ) (copies : Copies) (marks : List Bool) (work : List ℕ) (marks' : List Bool) (work' : List ℕ) : Type 0 where
  pub mine : copies_in marks' work' w ≡ copies
  pub others : (v : ℕ) → (v ≡ w → ⊥) → copies_in marks' work' v ≡ copies_in marks work v
  pub size : length work' ≡ length work
  pub mark_size : length marks' ≡ length marks
