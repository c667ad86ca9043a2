-- What the end of a run goes by, and what it leaves.
use Rattle.std.specs.Prelude.{ℕ, zero, suc, ◌-◌, ◌*◌, ◌≤◌, Bool, true, cond, not, ◌&&◌, ◌||◌, ◌≡◌, List, ◌++◌, ltb, length, get_or, take, replicate}
use Rattle.protocol.specs.Format.{workers_limit}
use Rattle.protocol.specs.Turns.{none_left}
use Rattle.protocol.specs.Report.{End, under_way, finished, stuck, end_number, entry_length}
use Rattle.protocol.specs.Calls.{report_length}
use Rattle.format.specs.Fates.{code_exited, code_asleep}
use Rattle.journal.specs.declared.report.Counts.{Counts}
use Rattle.journal.specs.Bytes.{Narrowing, report_of}

-- whether a code is that of exited, failed or asleep
abbrev pub code_final : ℕ → Bool
code_final code = not (ltb code code_exited || ltb code_asleep code)

-- so many workers from w on have such a code
unfoldable pub all_over : List ℕ → ℕ → ℕ → Bool
all_over fates zero w = true
all_over fates (suc k) w = code_final (get_or fates w 0) && all_over fates k (suc w)

-- the end, by whether nobody is left in this round's list, and the codes of fates
abbrev pub end_when : Bool → List ℕ → ℕ → End
end_when ended fates n = cond ended (cond (all_over fates n 0) finished stuck) under_way

-- its number, by the list itself
abbrev pub end_by : List ℕ → List ℕ → ℕ → ℕ
end_by list fates n = end_number (end_when (none_left list) fates n)

-- what the end of a run takes
pub record Closing (c : Counts) (n : ℕ) (log report : List ℕ) : Type 0 where
  pub workers : n ≤ workers_limit
  pub counts : Narrowing c
  pub room : entry_length * c.records ≤ length log
  pub size : length report ≡ report_length

-- what it leaves
pub record Closed (list : List ℕ) (c : Counts) (fates : List ℕ) (n sum : ℕ) (log log' report' : List ℕ) : Type 0 where
  pub logged : log' ≡ take (entry_length * c.records) log ++ replicate (length log - entry_length * c.records) 0
  pub reported : report' ≡ report_of (end_by list fates n) n c fates sum
