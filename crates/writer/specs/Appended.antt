-- What a record more takes, and what it makes of the log and of its fill mark.
use Rattle.std.specs.Prelude.{ℕ, ◌+◌, ◌*◌, ◌≤◌, ◌≡◌, List, length}
use Rattle.std.proofs.lemmas.List.Edits.{sets}
use Rattle.protocol.specs.Report.{entry_length}

-- the log has room for a record behind those that it has
abbrev pub Appending : List ℕ → ℕ → Type 0
Appending log records = entry_length * records + entry_length ≤ length log

-- the mark is one higher, and the record's bytes stand behind the others
pub record Appended (log : List ℕ) (records : ℕ) (entry : List ℕ) (mark : ℕ) (log' : List ℕ) : Type 0 where
  pub count : mark ≡ records + 1
  pub bytes : log' ≡ sets log (entry_length * records) entry
