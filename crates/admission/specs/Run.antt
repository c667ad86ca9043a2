-- What a run is admitted by.
use Rattle.std.specs.Prelude.{ℕ, Bool, ◌≡◌, List, ltb, length, Result, IfOk}
use Rattle.protocol.specs.Format.{plan_of}
use Rattle.protocol.specs.Refusals.{Verdict, code_of, check}
use Rattle.protocol.specs.Turns.{workers_of}
use Rattle.protocol.specs.Calls.{Buffers, turns_limit, misfit_by, names_nobody, verdict_by}
use Rattle.plan.specs.Answer.{verdict_of}
use Rattle.plan.specs.Checking.{LaidOut}
use Rattle.plan.specs.declared.answer.Refused.{Refused}
use Rattle.plan.specs.declared.check.Layout.{Layout}
use Rattle.admission.specs.declared.run.Lengths.{Lengths}

abbrev pub lengths_of : Buffers → Lengths
lengths_of b = record { memory = length b.memory; log = length b.log; report = length b.report; work = length b.work }

abbrev pub unfit : Lengths → Bool
unfit l = misfit_by l.memory l.log l.report l.work

-- the verdict, and the number for C, by whether the buffers' lengths are wrong
abbrev pub verdict_for : List ℕ → List ℕ → Bool → Verdict
verdict_for file turns buffers =
    verdict_by buffers (ltb turns_limit (length turns)) (check file) (names_nobody (workers_of (plan_of file)) turns)

abbrev pub answer_by : List ℕ → List ℕ → Bool → ℕ
answer_by file turns buffers = code_of (verdict_for file turns buffers)

-- the verdict is the definition's; the layout of an admitted file is that of its records
pub record Admits (file turns : List ℕ) (l : Lengths) (a : Result Layout Refused) : Type 0 where
  pub verdict : verdict_of a ≡ verdict_for file turns (unfit l)
  pub layout : IfOk a (LaidOut file)
