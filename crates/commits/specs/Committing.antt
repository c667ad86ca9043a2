-- What a worker's commit leaves, and by how much it moves the sum.
use Rattle.std.specs.Prelude.{ℕ, zero, suc, ◌+◌, Bool, false, ◌||◌, ◌≡◌, List, length, get_or, take}
use Rattle.protocol.specs.Pages.{Copies, no_copies, commit}
use Rattle.protocol.specs.Sum.{moved_by, commit_change}
use Rattle.pages.specs.Copies.{slot_of, copies_in, WorkerHolds}

-- half of all pages
abbrev pub half_count : ℕ
half_count = 4

-- whether worker w has a copy of one of so many pages, from a page on
unfoldable pub any_copied : List Bool → ℕ → ℕ → ℕ → Bool
any_copied marks w from zero = false
any_copied marks w from (suc k) = any_copied marks w from k || get_or marks (slot_of w (from + k)) false

-- a commit that had done the pages before one has done those before another, whatever memory it began with
abbrev pub PagesDone : Copies → ℕ → ℕ → List ℕ → List ℕ → Type 0
PagesDone copies from to memory memory' = (start : List ℕ) → memory ≡ commit (take from copies) start → memory' ≡ commit (take to copies) start

-- Worker w has committed: shared memory has what it changed, the sum is moved by as much, and it has no copies.
pub record Committed (w sum : ℕ) (marks : List Bool) (work memory : List ℕ) (sum' : ℕ) (marks' : List Bool) (memory' : List ℕ) : Type 0 where
  pub shared : memory' ≡ commit (copies_in marks work w) memory
  pub moved : sum' ≡ moved_by (commit_change (copies_in marks work w) memory) sum
  pub dropped : WorkerHolds w no_copies marks work marks' work
  pub size : length memory' ≡ length memory
