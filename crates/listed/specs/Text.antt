-- What is left of a listing in the slice that is lent for its text.
use Rattle.std.specs.Prelude.{ℕ, ◌+◌, ◌*◌, ◌≡◌, List, ◌++◌, length, drop}
use Rattle.protocol.specs.Calls.{check_code}
use Rattle.protocol.specs.Listing.{listing}
use Rattle.journal.specs.Offsets.{entries_limit}
use Rattle.text.specs.Text.{record_line_limit, end_line_limit}
use Rattle.listed.specs.declared.Written.{Written}
use Rattle.listed.specs.Listed.{listed_run}

-- room for any listing: a line for each record, and the last line
abbrev pub text_room : ℕ
text_room = record_line_limit * entries_limit + end_line_limit

-- what a listing returns, and what it leaves in the memory and in the text
pub record WroteListing (file : List ℕ) (r : Written) (memory before after : List ℕ) : Type 0 where
  pub code : r.code ≡ check_code file
  pub same_memory : r.code ≡ 0 → memory ≡ (listed_run file).memory
  pub size : r.length ≡ length (listing file)
  pub text : after ≡ listing file ++ drop r.length before
