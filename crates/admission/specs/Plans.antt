-- What a call with many plans is admitted by.
use Rattle.std.specs.Prelude.{ℕ, Bool, not, List, eqb, length}
use Rattle.protocol.specs.Refusals.{Verdict, code_of}
use Rattle.protocol.specs.Calls.{work_length}
use Rattle.protocol.specs.Batch.{Batch, begins_at, uneven_by, batch_by}
use Rattle.admission.specs.declared.batch.BatchLengths.{BatchLengths}

abbrev pub sizes_of : List ℕ → List ℕ → Batch → BatchLengths
sizes_of files lengths b =
    record {
      files = length files;
      lengths = length lengths;
      memories = length b.memories;
      logs = length b.logs;
      reports = length b.reports;
      answers = length b.answers;
      work = length b.work;
    }

abbrev pub unevenly : ℕ → BatchLengths → Bool
unevenly count l = uneven_by count l.lengths l.memories l.logs l.reports l.answers

-- the verdict, and the number for C, by the lengths
abbrev pub batch_for : ℕ → List ℕ → BatchLengths → Verdict
batch_for count lengths l = batch_by (not (eqb l.work work_length)) (unevenly count l) (not (eqb (begins_at lengths count) l.files))

abbrev pub batch_code : ℕ → List ℕ → BatchLengths → ℕ
batch_code count lengths l = code_of (batch_for count lengths l)
