-- A refusal's number is never 0, which stands for accepted, and fits its place in the code.
use Prim.Native.Nat.{◌≤◌}
use native.Mathlib.Omega.{arith}
use Rattle.protocol.specs.Refusals.{Refusal, bad_length, bad_mark, bad_plan, bad_barrier, bad_worker, bad_op, bad_operand, too_many_steps, no_size, skip_too_far, bad_buffer}
use Rattle.protocol.specs.Refusals.{too_many_turns, bad_turn, bad_sleep, bad_batch, number_of}

pub numbered : (f : Refusal) → (1 ≤ number_of f) × (number_of f ≤ 15)
numbered bad_length = (omega arith, omega arith)
numbered bad_mark = (omega arith, omega arith)
numbered bad_plan = (omega arith, omega arith)
numbered bad_barrier = (omega arith, omega arith)
numbered bad_worker = (omega arith, omega arith)
numbered bad_op = (omega arith, omega arith)
numbered bad_operand = (omega arith, omega arith)
numbered too_many_steps = (omega arith, omega arith)
numbered no_size = (omega arith, omega arith)
numbered skip_too_far = (omega arith, omega arith)
numbered bad_buffer = (omega arith, omega arith)
numbered too_many_turns = (omega arith, omega arith)
numbered bad_turn = (omega arith, omega arith)
numbered bad_sleep = (omega arith, omega arith)
numbered bad_batch = (omega arith, omega arith)
