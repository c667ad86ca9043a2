-- Where the parts of a log record and of the report stand, and how many records a log has room for.
use Rattle.std.specs.Prelude.{ℕ, ◌+◌, ◌*◌}
use Rattle.protocol.specs.Format.{workers_limit, steps_limit}

abbrev pub entry_round : ℕ
entry_round = 2

abbrev pub entry_worker : ℕ
entry_worker = 4

abbrev pub entry_op : ℕ
entry_op = 5

abbrev pub entry_number : ℕ
entry_number = 6

abbrev pub entry_outcome : ℕ
entry_outcome = 7

abbrev pub report_end : ℕ
report_end = 0

abbrev pub report_moves : ℕ
report_moves = 2

abbrev pub report_records : ℕ
report_records = 6

-- the numbers up to the fates, then the fates, then the sum, which begins at `Report.report_sum`
abbrev pub tallies_length : ℕ
tallies_length = 8

abbrev pub report_fates : ℕ
report_fates = tallies_length

-- a worker synchronises with each of its steps at most, and once behind the last
abbrev pub entries_limit : ℕ
entries_limit = workers_limit * (steps_limit + 1)
