-- Document 02, Four: many plans in one call.
use Rattle.std.specs.Prelude.{ℕ, zero, suc, ◌+◌, ◌*◌, ◌%◌, Bool, not, ◌||◌, List, ◌++◌, eqb, length, set, take, drop}
use Rattle.protocol.specs.Format.{long_at}
use Rattle.protocol.specs.Refusals.{Verdict, accepted, refused, code_of, bad_buffer, bad_batch, holds, refuse_if, ruled, outside, check}
use Rattle.protocol.specs.Calls.{Buffers, Reply, memory_length, log_length, report_length, work_length, run}
use Rattle.protocol.specs.Listing.{turns_by}

-- "1 to 40 plan files"
abbrev pub plans_limit : ℕ
plans_limit = 40

-- "their lengths as 32-bit numbers (four bytes each, low byte first)"
abbrev pub length_bytes : ℕ
length_bytes = 4

unfoldable pub length_at : List ℕ → ℕ → ℕ
length_at lengths k = long_at lengths (length_bytes * k)

-- "back to back": a file begins behind all those before it
unfoldable pub begins_at : List ℕ → ℕ → ℕ
begins_at lengths zero = 0
begins_at lengths (suc k) = begins_at lengths k + length_at lengths k

unfoldable pub file_at : List ℕ → List ℕ → ℕ → List ℕ
file_at files lengths k = take (length_at lengths k) (drop (begins_at lengths k) files)

-- "and memories, logs and reports back to back too": plan k's part, of so many bytes each; and all with another one in its place
unfoldable pub part_at : ℕ → ℕ → List ℕ → List ℕ
part_at unit k bytes = take unit (drop (unit * k) bytes)

unfoldable pub part_as : ℕ → ℕ → List ℕ → List ℕ → List ℕ
part_as unit k part bytes = take (unit * k) bytes ++ (part ++ drop unit (drop (unit * k) bytes))

-- what is lent: "One work buffer serves all"
pub record Batch : Type 0 where
  pub memories : List ℕ
  pub logs : List ℕ
  pub reports : List ℕ
  pub answers : List ℕ
  pub work : List ℕ

-- what the call returns, and what is lent as it leaves it
pub record BatchReply : Type 0 where
  pub returned : ℕ
  pub batch : Batch

-- "a count outside 1 to 40 .. or another buffer not count times its unit": by the lengths of the buffers
abbrev pub uneven_by : (count lengths memories logs reports answers : ℕ) → Bool
uneven_by count lengths memories logs reports answers =
    outside 1 plans_limit count
    || not (eqb lengths (length_bytes * count))
    || not (eqb memories (memory_length * count))
    || not (eqb logs (log_length * count))
    || not (eqb reports (report_length * count))
    || not (eqb answers count)

abbrev pub uneven : ℕ → List ℕ → Batch → Bool
uneven count lengths b =
    uneven_by count (length lengths) (length b.memories) (length b.logs) (length b.reports) (length b.answers)

-- "One work buffer serves all; another length of it is 11, tested first. Refused: 15, a count outside 1 to 40, lengths that don't add up to
-- the bytes lent, or another buffer not count times its unit": the verdict by the three tests
abbrev pub batch_by : Bool → Bool → Bool → Verdict
batch_by work parts sum = ruled (refuse_if work bad_buffer (refuse_if (parts || sum) bad_batch holds)) 0 accepted

unfoldable pub batch_verdict : ℕ → List ℕ → List ℕ → Batch → Verdict
batch_verdict count files lengths b =
    batch_by (not (eqb (length b.work) work_length)) (uneven count lengths b) (not (eqb (begins_at lengths count) (length files)))

-- what plan k is lent
abbrev pub parts_of : ℕ → Batch → Buffers
parts_of k b =
    record {
      memory = part_at memory_length k b.memories;
      log = part_at log_length k b.logs;
      report = part_at report_length k b.reports;
      work = b.work;
    }

-- "A further buffer gets one byte a plan: 0, or the refusal number"; "a refused plan's record index isn't given"
abbrev pub answer_of : ℕ → ℕ
answer_of returned = returned % 256

-- what the separate call of plan k leaves, in its place
abbrev pub left_by : ℕ → Reply → Batch → Batch
left_by k r b =
    record {
      memories = part_as memory_length k r.buffers.memory b.memories;
      logs = part_as log_length k r.buffers.log b.logs;
      reports = part_as report_length k r.buffers.report b.reports;
      answers = set b.answers k (answer_of r.returned);
      work = r.buffers.work;
    }

-- "Each is run with whole cycles to its end."
abbrev pub separate : List ℕ → Buffers → Reply
separate file b = run file (turns_by (check file) file) b

-- "All else ends as after one separate call a plan, in order, on the same work buffer": after the first k plans
unfoldable pub run_plans : List ℕ → List ℕ → ℕ → Batch → Batch
run_plans files lengths zero b = b
run_plans files lengths (suc k) b =
    let d = run_plans files lengths k b in left_by k (separate (file_at files lengths k) (parts_of k d)) d

-- 15 "comes before any file is read"; a call that is refused leaves each byte
abbrev pub batch_reply : Verdict → Batch → Batch → BatchReply
batch_reply accepted ran b = record { returned = 0; batch = ran }
batch_reply (refused f i) ran b = record { returned = code_of (refused f i); batch = b }

unfoldable pub run_all : ℕ → List ℕ → List ℕ → Batch → BatchReply
run_all count files lengths b = batch_reply (batch_verdict count files lengths b) (run_plans files lengths count b) b
