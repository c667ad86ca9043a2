-- The numbers and enums of the code as the protocol's definitions have them.
use Rattle.std.specs.Prelude.{ℕ, ◌+◌, ◌*◌, cond, eqb}
use Rattle.protocol.specs.Ops.{op_lock, op_unlock, op_wait, op_signal, op_broadcast, op_barrier, op_start}
use Rattle.protocol.specs.Format.{Sync, lock, unlock, wait, signal, broadcast, barrier, start_worker, exit}
use Rattle.protocol.specs.Steps as steps
use Rattle.protocol.specs.Steps.{on_condition, at_barrier, going, exited, failed, asleep, waiting}
use Rattle.protocol.specs.Rounds as rounds
use Rattle.format.specs.Fates.{code_asleep, code_on_condition, code_at_barrier}
use Rattle.rules.specs.declared.fate.Fate.{Fate}
use Rattle.rules.specs.declared.fate.Fate.TheVariants.{Going, Exited, Failed, Asleep, OnCondition, AtBarrier}
use Rattle.rules.specs.declared.ruling.Uncommitted.{Uncommitted}
use Rattle.rules.specs.declared.ruling.Uncommitted.TheVariants.{Kept, Committed, Lost}
use Rattle.rules.specs.declared.ruling.Goes.{Goes}
use Rattle.rules.specs.declared.ruling.Goes.TheVariants.{Keeps, Gives, Leaves}

-- a fate as one number
abbrev pub fate_code : steps.Fate → ℕ
fate_code going = 0
fate_code exited = 1
fate_code failed = 2
fate_code asleep = code_asleep
fate_code (waiting (on_condition c)) = code_on_condition + 2 * c
fate_code (waiting (at_barrier b)) = code_at_barrier + 2 * b

-- the codes of one who waits on a condition, and of one who waits at a barrier
abbrev pub condition_code : ℕ → ℕ
condition_code c = fate_code (waiting (on_condition c))

abbrev pub barrier_code : ℕ → ℕ
barrier_code b = fate_code (waiting (at_barrier b))

abbrev pub fate_of : Fate → steps.Fate
fate_of Going = going
fate_of Exited = exited
fate_of Failed = failed
fate_of Asleep = asleep
fate_of (OnCondition c) = waiting (on_condition c)
fate_of (AtBarrier b) = waiting (at_barrier b)

abbrev pub uncommitted_of : Uncommitted → rounds.Uncommitted
uncommitted_of Kept = rounds.kept
uncommitted_of Committed = rounds.committed
uncommitted_of Lost = rounds.lost

abbrev pub goes_of : Goes → rounds.Goes
goes_of Keeps = rounds.keeps
goes_of Gives = rounds.gives
goes_of (Leaves f) = rounds.leaves (fate_of f)

-- a synchronising step by its op, as the table has it (`step-sync` in proofs/Codes ties the two); where an op is no such step's, an exit
unfoldable pub sync_of : ℕ → ℕ → Sync
sync_of op number =
    cond (eqb op op_lock) (lock number)
    (cond (eqb op op_unlock) (unlock number)
    (cond (eqb op op_wait) (wait number)
    (cond (eqb op op_signal) (signal number)
    (cond (eqb op op_broadcast) (broadcast number)
    (cond (eqb op op_barrier) (barrier number)
    (cond (eqb op op_start) (start_worker number) exit))))))
