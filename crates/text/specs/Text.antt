-- What is written into a slice that is lent for a text, and the log and the report as the text's numbers.
use Rattle.std.specs.Prelude.{ℕ, zero, suc, ◌+◌, ◌*◌, ◌≤◌, cond, ◌≡◌, List, [], ◌∷◌, ◌++◌, eqb, length, get_or, take, drop}
use Rattle.protocol.specs.Rounds.{Entry}
use Rattle.protocol.specs.Report.{entry_length, End, finished, stuck, end_number}
use Rattle.protocol.specs.Listing.{end_line}
use Rattle.words.specs.Bytes.{word_at}
use Rattle.text.specs.declared.Text.{Text}
use Rattle.journal.specs.Offsets.{entry_round, entry_worker, entry_op, entry_number, entry_outcome, report_end, report_moves}

-- the most bytes of a record's line, of an end's word with a space, of the last line, and of a refusal's line
abbrev pub record_line_limit : ℕ
record_line_limit = 22

abbrev pub end_word_limit : ℕ
end_word_limit = 9

abbrev pub end_line_limit : ℕ
end_line_limit = 15

abbrev pub refusal_line_limit : ℕ
refusal_line_limit = 21

-- what is written, and what stands behind it in the slice
abbrev pub written : Text → List ℕ
written t = take t.end t.bytes.now

abbrev pub rest : Text → List ℕ
rest t = drop t.end t.bytes.now

-- how many bytes more it holds
abbrev pub room : Text → ℕ
room t = length (rest t)

-- these bytes stand behind what was written, all else is as it was, and the slice is the same
pub record Wrote (before : Text) (bytes : List ℕ) (after : Text) : Type 0 where
  pub stands : written after ≡ written before ++ bytes
  pub behind : rest after ≡ drop (length bytes) (rest before)
  pub same_slice : after.bytes.ghost_name ≡ before.bytes.ghost_name

-- and they are so many at most
pub record WroteWithin (limit : ℕ) (before : Text) (bytes : List ℕ) (after : Text) : Type 0 where
  pub wrote : Wrote before bytes after
  pub within : length bytes ≤ limit

-- the record whose first byte stands at a position of a log
abbrev pub entry_at : List ℕ → ℕ → Entry
entry_at log at =
    record {
      round = word_at log (at + entry_round);
      worker = get_or log (at + entry_worker) 0;
      op = get_or log (at + entry_op) 0;
      number = get_or log (at + entry_number) 0;
      outcome = get_or log (at + entry_outcome) 0;
    }

-- so many records, the first of which has the given index
unfoldable pub entries_from : List ℕ → ℕ → ℕ → List Entry
entries_from log zero i = []
entries_from log (suc k) i = entry_at log (entry_length * i) ∷ entries_from log k (suc i)

-- the end of a plan that has ended, by its number
abbrev pub end_numbered : ℕ → End
end_numbered k = cond (eqb k (end_number finished)) finished stuck

-- the last line, by a report
abbrev pub last_line : List ℕ → List ℕ
last_line report =
    end_line (end_numbered (get_or report report_end 0)) (word_at report report_moves)
