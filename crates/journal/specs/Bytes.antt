-- What the log's records and the report are as bytes, from the code's numbers.
use Rattle.std.specs.Prelude.{ℕ, ◌+◌, ◌%◌, ◌<◌, cond, List, ◌∷◌, ◌++◌, map, ltb, leb, eqb, get_or}
use Rattle.protocol.specs.Format.{workers_limit, count_from}
use Rattle.protocol.specs.Steps.{on_condition, asleep, waiting}
use Rattle.protocol.specs.Rounds.{Entry}
use Rattle.protocol.specs.Report.{two_bytes, four_bytes, fate_number, no_worker}
use Rattle.format.specs.Fates.{code_asleep}
use Rattle.journal.specs.declared.report.Counts.{Counts}

abbrev pub entry_as : ℕ → ℕ → ℕ → ℕ → ℕ → Entry
entry_as r w o k c = record { round = r; worker = w; op = o; number = k; outcome = c }

-- the byte of a worker on any condition; that of one at any barrier is the next
abbrev pub shown_on_condition : ℕ
shown_on_condition = fate_number (waiting (on_condition 0))

-- a fate's byte, by its code, which is even on a condition and odd at a barrier
abbrev pub shown_by : ℕ → ℕ
shown_by code = cond (ltb code code_asleep) code (cond (eqb code code_asleep) (fate_number asleep) (shown_on_condition + code % 2))

abbrev pub shown : ℕ → ℕ → ℕ → ℕ
shown workers w code = cond (leb workers w) no_worker (shown_by code)

-- the bytes of so many fates, from worker w's on
abbrev pub fates_from : ℕ → List ℕ → ℕ → ℕ → List ℕ
fates_from workers fates k w = map (λ v. shown workers v (get_or fates v 0)) (count_from k w)

-- each count fits the two bytes that the report has for it
pub record Narrowing (c : Counts) : Type 0 where
  pub moves : c.moves < 65536
  pub rounds : c.rounds < 65536
  pub records : c.records < 65536

-- end, number of workers, moving turns, rounds, log records
abbrev pub tallies_of : ℕ → ℕ → ℕ → ℕ → ℕ → List ℕ
tallies_of end workers moves rounds records = end ∷ workers ∷ (two_bytes moves ++ (two_bytes rounds ++ two_bytes records))

unfoldable pub report_of : ℕ → ℕ → Counts → List ℕ → ℕ → List ℕ
report_of end workers c fates sum =
    tallies_of end workers c.moves c.rounds c.records ++ (fates_from workers fates workers_limit 0 ++ four_bytes sum)
