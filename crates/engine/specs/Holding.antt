-- What settling the holder's bytes ensures.
use Rattle.std.specs.Prelude.{ℕ, Bool, ◌≡◌, List, [], ◌∷◌, Option, Some, None, length}
use Rattle.protocol.specs.Rounds.{memory_after, copies_after}
use Rattle.protocol.specs.Sum.{moved_by, settled_change}
use Rattle.pages.specs.Copies.{copies_in}
use Rattle.rules.specs.declared.ruling.Uncommitted.{Uncommitted}
use Rattle.rules.specs.Codes.{uncommitted_of}
use Rattle.decisions.specs.declared.lists.Lists.{Lists}

-- shared memory, its sum and the holder's copies after its step; the other workers' copies stay
pub record BytesSettled (bytes : Uncommitted) (h sum : ℕ) (memory : List ℕ) (marks : List Bool) (work : List ℕ)
    (sum' : ℕ) (memory' : List ℕ) (marks' : List Bool) : Type 0 where
  pub shared : memory' ≡ memory_after (uncommitted_of bytes) (copies_in marks work h) memory
  pub moved : sum' ≡ moved_by (settled_change (uncommitted_of bytes) (copies_in marks work h) memory) sum
  pub mine : copies_in marks' work h ≡ copies_after (uncommitted_of bytes) (copies_in marks work h)
  pub others : (v : ℕ) → (v ≡ h → ⊥) → copies_in marks' work v ≡ copies_in marks work v
  pub size : length memory' ≡ length memory
  pub mark_size : length marks' ≡ length marks

-- the first of a list, if there is one
abbrev pub head_of : List ℕ → Option ℕ
head_of [] = None
head_of (w ∷ ws) = Some w

-- the lists behind a step: where the next list begins the next round, it is this round's, and nobody is in the next
abbrev pub lists_begun : Lists → Option (List ℕ) → Lists
lists_begun lists None = lists
lists_begun lists (Some list) = record { list = list; next = []; waiting = lists.waiting }
