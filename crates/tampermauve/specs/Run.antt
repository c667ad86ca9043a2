-- What a plan that is played takes and leaves, and what the call of a run ensures.
use Rattle.std.specs.Prelude.{ℕ, Bool, true, false, ◌≡◌, List, length}
use Rattle.protocol.specs.Format.{plan_of}
use Rattle.protocol.specs.Turns.{ended}
use Rattle.protocol.specs.RoundRun.{round_run}
use Rattle.protocol.specs.Report.{report_bytes}
use Rattle.protocol.specs.Calls.{Buffers, Reply, report_length, lent_log, played_from, run}
use Rattle.protocol.specs.Demands.{Demand3Bytes, SumShown, no_lock_failed, LeftAsByCount, UnnamedKept, LentAlike, RepliedAlike}
use Rattle.plan.specs.declared.check.Layout.{Layout}
use Rattle.engine.specs.Turning.{Playing}

abbrev pub lent : List ℕ → List ℕ → List ℕ → List ℕ → Buffers
lent memory log report work = record { memory = memory; log = log; report = report; work = work }

-- what playing an accepted file and closing its buffers takes
pub record Performing (file : List ℕ) (l : Layout) (turns : List ℕ) (whole : Bool) (memory log report work : List ℕ) : Type 0 where
  pub playing : Playing file l.workers l.sizes l.firsts l.fates turns whole memory log work
  pub size : length report ≡ report_length

-- and leaves: memory, log and report of the state that some turns leave, those of the list or, in a run to the end, others that end the plan
pub record Performed (file turns : List ℕ) (whole : Bool) (start memory log report : List ℕ) : Type 0 where
  pub played : List ℕ
  pub listed : whole ≡ false → played ≡ turns
  pub ends : whole ≡ true → ended (played_from (plan_of file) start played) ≡ true
  pub same_memory : memory ≡ (played_from (plan_of file) start played).memory
  pub same_log : log ≡ lent_log (played_from (plan_of file) start played)
  pub same_report : report ≡ report_bytes (played_from (plan_of file) start played)

-- what is returned and left is what the definition gives; and, of the bytes that an accepted run leaves, demand 3, the sum, and that they are
-- what they were by count where no lock fails; and of every run that bytes nobody named are as they were lent, and that a call which is lent
-- others there is answered alike
pub record Ran (file turns : List ℕ) (before : Buffers) (r : ℕ) (after : Buffers) : Type 0 where
  pub same : ◌≡◌ {A = Reply} (record { returned = r; buffers = after }) (run file turns before)
  pub demand3 : r ≡ 0 → Demand3Bytes (plan_of file) before.memory turns after
  pub sum : r ≡ 0 → SumShown after
  pub by_count : r ≡ 0 → no_lock_failed (round_run (plan_of file) before.memory).log ≡ true → LeftAsByCount (plan_of file) before.memory turns after
  pub unnamed : UnnamedKept (plan_of file) before.memory after.memory
  pub beside :
      (other : Buffers)
      → LentAlike (plan_of file) before other
      → RepliedAlike before other (record { returned = r; buffers = after }) (run file turns other)
