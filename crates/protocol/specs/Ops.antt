-- Document 01, "Plan file", and document 02, One: the ops by name. Three are those of the records that are no steps; the others are those of the table, in its order.
use Rattle.std.specs.Prelude.{ℕ}

abbrev pub op_plan_record : ℕ
op_plan_record = 0

abbrev pub op_barrier_record : ℕ
op_barrier_record = 1

abbrev pub op_sleep_record : ℕ
op_sleep_record = 2

abbrev pub op_set : ℕ
op_set = 16

abbrev pub op_load : ℕ
op_load = 17

abbrev pub op_store : ℕ
op_store = 18

abbrev pub op_add : ℕ
op_add = 19

abbrev pub op_subtract : ℕ
op_subtract = 20

abbrev pub op_skip_zero : ℕ
op_skip_zero = 21

abbrev pub op_skip_nonzero : ℕ
op_skip_nonzero = 22

-- the ops of the steps that synchronise
abbrev pub op_lock : ℕ
op_lock = 32

abbrev pub op_unlock : ℕ
op_unlock = 33

abbrev pub op_wait : ℕ
op_wait = 34

abbrev pub op_signal : ℕ
op_signal = 35

abbrev pub op_broadcast : ℕ
op_broadcast = 36

abbrev pub op_barrier : ℕ
op_barrier = 37

abbrev pub op_exit : ℕ
op_exit = 38

abbrev pub op_start : ℕ
op_start = 39

-- Six, of "bytes that name no op": "from 32 up it synchronises, below it doesn't"
abbrev pub syncs_from : ℕ
syncs_from = 32
