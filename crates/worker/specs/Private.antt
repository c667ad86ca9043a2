-- What joins a worker's record in the code to the definitions of Steps, and what its own steps ensure.
use Rattle.std.specs.Prelude.{◌≡◌, ℕ, ◌+◌, ◌-◌, ◌%◌, ◌<◌, ◌≤◌, Bool, cond, not, List, ◌==◌, Option, Some, None, slice_index, slice_set}
use Rattle.protocol.specs.Ops.{op_set, op_load, op_store, op_add, op_subtract, op_skip_zero, op_skip_nonzero}
use Rattle.protocol.specs.Format.{register_count, steps_limit, Own, assign, load, store, add, subtract, skip_zero, skip_nonzero}
use Rattle.protocol.specs.Pages.{Copies, load_word, store_word}
use Rattle.protocol.specs.Steps as steps
use Rattle.protocol.specs.Steps.{Fate, worker_of, own_step}
use Rattle.worker.specs.declared.Worker.{Worker}
use Rattle.worker.specs.declared.Moved.{Moved}

-- its four registers
abbrev pub registers_of : Worker → List ℕ
registers_of v = v.registers

-- the worker of the definitions: what the record holds, the locks that its number shows, and what the engine keeps beside it
abbrev pub viewed : Worker → List ℕ → Bool → Copies → Fate → steps.Worker
viewed v locks arrived copies fate = worker_of v.place (registers_of v) locks arrived copies fate

-- the worker behind a synchronising step, with the number of the locks held after it
abbrev pub held_as : Worker → ℕ → Worker
held_as v held = record { place = v.place + 1; held = held; registers = v.registers }

-- w is v with another value in register r
pub record Replaced (v : Worker) (r value : ℕ) (w : Worker) : Type 0 where
  pub place : w.place ≡ v.place
  pub held : w.held ≡ v.held
  pub registers : registers_of w ≡ slice_set (registers_of v) r value

-- an own step by its op, as the table has it (`step-own` in proofs/OwnSteps ties the two); where an op is no own step's, an assignment
unfoldable pub own_of : ℕ → ℕ → ℕ → Own
own_of op register number =
    cond (op == op_load) (load register number)
    (cond (op == op_store) (store register number)
    (cond (op == op_add) (add register number)
    (cond (op == op_subtract) (subtract register number)
    (cond (op == op_skip_zero) (skip_zero register number)
    (cond (op == op_skip_nonzero) (skip_nonzero register number) (assign register number))))))

-- what set, load, add and subtract put into the register, which holds a value at first
unfoldable pub result_of : List ℕ → ℕ → ℕ → ℕ → ℕ → ℕ
result_of registers op value number loaded =
    cond (op == op_load) loaded
    (cond (op == op_add) ((value + slice_index registers number) % 65536)
    (cond (op == op_subtract) ((value + 65536 - slice_index registers number) % 65536) number))

-- how many steps a skip passes over
unfoldable pub skip_of : ℕ → ℕ → ℕ → ℕ
skip_of op value number = cond (cond (op == op_skip_zero) (value == 0) (not (value == 0))) number 0

-- the copies after a move: a step that stores leaves that to the caller
abbrev pub copies_stored : Option ℕ → List ℕ → Copies → ℕ → Copies
copies_stored None memory copies address = copies
copies_stored (Some value) memory copies address = store_word memory copies address value

-- what a step takes: an own step of an accepted plan, and the worker within its steps
pub record OwnStepping (v : Worker) (op register number : ℕ) : Type 0 where
  pub place : v.place ≤ steps_limit
  pub least : op_set ≤ op
  pub most : op ≤ op_skip_nonzero
  pub named : register < register_count
  pub operand : op_add ≤ op → op ≤ op_subtract → number < register_count
  pub skip : op_skip_zero ≤ op → number < steps_limit

-- what a step gives: the definition's step, whatever the memory, the copies and the locks, where `loaded` is what a load would read
pub record OwnStepped (v : Worker) (op register number loaded : ℕ) (m : Moved (Option ℕ)) : Type 0 where
  pub step :
      (memory locks : List ℕ) (arrived : Bool) (copies : Copies) (fate : Fate)
      → (op ≡ op_load → loaded ≡ load_word memory copies number)
      → own_step memory (own_of op register number) (viewed v locks arrived copies fate)
      ≡ viewed m.worker locks arrived (copies_stored m.outcome memory copies number) fate
  pub held : m.worker.held ≡ v.held
