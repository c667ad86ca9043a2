-- Document 01, case 1: how many turns the listing program feeds a plan, and what it lists.
use Rattle.std.specs.Prelude.{ℕ, ◌+◌, ◌*◌, ◌≡◌, List, get_or, replicate}
use Rattle.protocol.specs.Format.{workers_limit, steps_limit, plan_of}
use Rattle.protocol.specs.Rounds.{State}
use Rattle.protocol.specs.RoundRun.{round_run}
use Rattle.protocol.specs.Report.{under_way, end_number, report_bytes}
use Rattle.protocol.specs.Calls.{memory_length, check_code, lent_log}
use Rattle.journal.specs.Offsets.{report_end}

-- how many turns these are
abbrev pub turn_count : ℕ → ℕ → ℕ
turn_count steps n = 2 * (steps + n) * n

-- the most turns: those of as many workers as a plan may have, each with as many steps
abbrev pub ending_turns : ℕ
ending_turns = turn_count (steps_limit * workers_limit) workers_limit

-- the round-by-round run from zero memory
abbrev pub listed_run : List ℕ → State
listed_run file = round_run (plan_of file) (replicate memory_length 0)

-- what is returned, and what an accepted plan leaves: memory, log and report of the round-by-round run, which has ended
pub record RanToEnd (file : List ℕ) (r : ℕ) (memory log report : List ℕ) : Type 0 where
  pub code : r ≡ check_code file
  pub same_memory : r ≡ 0 → memory ≡ (listed_run file).memory
  pub same_log : r ≡ 0 → log ≡ lent_log (listed_run file)
  pub same_report : r ≡ 0 → report ≡ report_bytes (listed_run file)
  pub ended : r ≡ 0 → get_or report report_end 0 ≡ end_number under_way → ⊥
