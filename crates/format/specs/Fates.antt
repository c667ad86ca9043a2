-- The codes by which the engine keeps fates. Those on conditions are even, from `code_on_condition` on; those at barriers odd, from `code_at_barrier` on.
use Rattle.std.specs.Prelude.{ℕ}

abbrev pub code_going : ℕ
code_going = 0

abbrev pub code_exited : ℕ
code_exited = 1

abbrev pub code_failed : ℕ
code_failed = 2

abbrev pub code_asleep : ℕ
code_asleep = 3

abbrev pub code_on_condition : ℕ
code_on_condition = 4

abbrev pub code_at_barrier : ℕ
code_at_barrier = 5
