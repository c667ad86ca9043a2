-- Document 01, "Calls and buffers": what the host calls that check and run one file return, and what a run leaves in the buffers lent to it.
use Rattle.std.specs.Prelude.{ℕ, ◌-◌, Bool, not, ◌||◌, List, ◌++◌, leb, ltb, eqb, length, replicate}
use Rattle.protocol.specs.Format.{Plan, plan_of}
use Rattle.protocol.specs.Refusals.{Verdict, accepted, refused, code_of, bad_buffer, too_many_turns, bad_turn, holds, refuse_if, ruled, any_of, check}
use Rattle.protocol.specs.Rounds.{State}
use Rattle.protocol.specs.Turns.{workers_of, start, play}
use Rattle.protocol.specs.Report.{log_bytes, report_bytes}

-- "Lent to a run: memory 2,048 bytes, log 8,256, report 16, work 32,768." Three: the report has 20.
abbrev pub memory_length : ℕ
memory_length = 2048

abbrev pub log_length : ℕ
log_length = 8256

abbrev pub report_length : ℕ
report_length = 20

abbrev pub work_length : ℕ
work_length = 32768

abbrev pub turns_limit : ℕ
turns_limit = 65535

pub record Buffers : Type 0 where
  pub memory : List ℕ
  pub log : List ℕ
  pub report : List ℕ
  pub work : List ℕ

-- what a call returns, and the buffers as it leaves them
pub record Reply : Type 0 where
  pub returned : ℕ
  pub buffers : Buffers

-- "One call checks a file": "refusal + 256 × index. An accepted call returns 0"
abbrev pub check_code : List ℕ → ℕ
check_code file = code_of (check file)

-- "11, a lent buffer of another length": by the lengths of memory, log, report and work
abbrev pub misfit_by : ℕ → ℕ → ℕ → ℕ → Bool
misfit_by memory log report work =
    not (eqb memory memory_length) || not (eqb log log_length) || not (eqb report report_length) || not (eqb work work_length)

abbrev pub misfit : Buffers → Bool
misfit b = misfit_by (length b.memory) (length b.log) (length b.report) (length b.work)

-- "13, a turn naming a worker not below n"
abbrev pub names_nobody : ℕ → List ℕ → Bool
names_nobody n turns = any_of (λ w. leb n w) turns

abbrev pub both : Verdict → Verdict → Verdict
both accepted next = next
both (refused f i) next = refused f i

-- "A run tests 11, 12, then the file, then 13.": the verdict by the four tests
abbrev pub verdict_by : Bool → Bool → Verdict → Bool → Verdict
verdict_by buffers many file stray =
    ruled (refuse_if buffers bad_buffer holds) 0
    (ruled (refuse_if many too_many_turns holds) 0 (both file (ruled (refuse_if stray bad_turn holds) 0 accepted)))

unfoldable pub run_verdict : List ℕ → List ℕ → Buffers → Verdict
run_verdict file turns b =
    verdict_by (misfit b) (ltb turns_limit (length turns)) (check file) (names_nobody (workers_of (plan_of file)) turns)

-- "After an accepted run memory is the shared memory, the log's rest is zero, work is all zero."
unfoldable pub lent_log : State → List ℕ
lent_log s = log_bytes s.log ++ replicate (log_length - length (log_bytes s.log)) 0

abbrev pub buffers_of : State → Buffers
buffers_of s = record { memory = s.memory; log = lent_log s; report = report_bytes s; work = replicate work_length 0 }

-- the state that a list of turns leaves, from the lent memory
abbrev pub played_from : Plan → List ℕ → List ℕ → State
played_from plan memory turns = play plan (start plan memory) turns

-- "A refusal returns its number and a record index ..; no lent byte changes."
abbrev pub reply_of : Verdict → State → Buffers → Reply
reply_of accepted s b = record { returned = 0; buffers = buffers_of s }
reply_of (refused f i) s b = record { returned = code_of (refused f i); buffers = b }

unfoldable pub run : List ℕ → List ℕ → Buffers → Reply
run file turns b = reply_of (run_verdict file turns b) (played_from (plan_of file) b.memory turns) b
