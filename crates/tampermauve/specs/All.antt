-- Many plans in one call: what one plan of it takes and leaves, and what the call ensures.
use Rattle.std.specs.Prelude.{ℕ, ◌-◌, ◌*◌, ◌/◌, ◌%◌, ◌<◌, Bool, true, false, cond, ◌≡◌, List, ltb, length, get_or, replicate, Result, Ok, Err}
use Rattle.protocol.specs.Format.{workers_limit, plan_of}
use Rattle.protocol.specs.Calls.{Buffers, work_length}
use Rattle.protocol.specs.Batch.{Batch, BatchReply, file_at, parts_of, answer_of, separate, run_plans, run_all}
use Rattle.protocol.specs.Demands.{EachLeft, UnnamedKept, BatchLentAlike, BatchRepliedAlike}
use Rattle.protocol.specs.Refusals.{number_of}
use Rattle.plan.specs.Answer.{refusal_of}
use Rattle.plan.specs.declared.answer.Refused.{Refused}
use Rattle.engine.specs.Turning.{stretch, cycle_turns}

abbrev pub batch : List ℕ → List ℕ → List ℕ → List ℕ → List ℕ → Batch
batch memories logs reports answers work =
    record { memories = memories; logs = logs; reports = reports; answers = answers; work = work }

-- the turns that each plan is run with: cycles of all workers, and behind them a stretch of each worker
abbrev pub turn_at : ℕ → ℕ
turn_at i = cond (ltb i cycle_turns) (i % workers_limit) ((i - cycle_turns) / stretch)

pub record Stretched (turns : List ℕ) : Type 0 where
  pub size : length turns ≡ 2 * cycle_turns
  pub each : (i : ℕ) → i < length turns → get_or turns i 0 ≡ turn_at i

-- a plan's byte: 0, or the number of its refusal
abbrev pub answer_for : Result Unit Refused → ℕ
answer_for (Ok x) = 0
answer_for (Err e) = number_of (refusal_of e.refusal)

-- what one plan leaves is what its separate call leaves, but for work, which a refused one does not touch
pub record RanAlone (file : List ℕ) (before : Buffers) (answer : ℕ) (memory log report work : List ℕ) : Type 0 where
  pub answered : answer ≡ answer_of (separate file before).returned
  pub same_memory : memory ≡ (separate file before).buffers.memory
  pub same_log : log ≡ (separate file before).buffers.log
  pub same_report : report ≡ (separate file before).buffers.report
  pub untouched : (answer ≡ 0 → ⊥) → work ≡ before.work

-- What the first k plans leave is what their separate calls leave, but for work: if one of them was accepted it is to be all zero, and the
-- code's is to be cleared yet; if none was, neither has been touched.
pub record RanPlans (files lengths : List ℕ) (k : ℕ) (before : Batch) (accepted : Bool) (after : Batch) : Type 0 where
  pub memories : after.memories ≡ (run_plans files lengths k before).memories
  pub logs : after.logs ≡ (run_plans files lengths k before).logs
  pub reports : after.reports ≡ (run_plans files lengths k before).reports
  pub answers : after.answers ≡ (run_plans files lengths k before).answers
  pub cleared : accepted ≡ true → (run_plans files lengths k before).work ≡ replicate work_length 0
  pub lent : accepted ≡ false → ((run_plans files lengths k before).work ≡ before.work) × (after.work ≡ before.work)

-- what is returned and left is what the definition gives; and each accepted plan has been run to its end, and no refused one was touched; bytes
-- of a plan's memory that nobody named are as they were lent, and a call which is lent others there is answered alike
pub record RanAll (count : ℕ) (files lengths : List ℕ) (before : Batch) (r : ℕ) (after : Batch) : Type 0 where
  pub same : ◌≡◌ {A = BatchReply} (record { returned = r; batch = after }) (run_all count files lengths before)
  pub each : r ≡ 0 → EachLeft count files lengths before after
  pub unnamed : r ≡ 0 → (k : ℕ) → k < count → UnnamedKept (plan_of (file_at files lengths k)) (parts_of k before).memory (parts_of k after).memory
  pub beside :
      (other : Batch)
      → BatchLentAlike count files lengths before other
      → BatchRepliedAlike count before other (record { returned = r; batch = after }) (run_all count files lengths other)
