-- The tests of a call with many plans, by the lengths of its buffers.
use Prim.Native.Nat.{ℕ, ◌*◌, ◌≤◌}
use mathlib.Core.Bool.{Bool, true, false, not}
use mathlib.Core.Path.{◌≡◌, sym}
use mathlib.Core.List.{List}
use lib.Dec.{eqb}
use borrow.Author.Tests.{le-ltb, eq-eqb}
use Rattle.protocol.specs.Refusals.{code_of}
use Rattle.protocol.specs.Calls.{memory_length, log_length, report_length, work_length}
use Rattle.protocol.specs.Batch.{plans_limit, length_bytes, begins_at, batch_by}
use Rattle.protocol.proofs.Bools.{split}
use Rattle.protocol.proofs.BatchDue.{EvenBy, even-by}
use Rattle.admission.specs.Plans.{unevenly, batch_code}
use Rattle.admission.specs.declared.batch.BatchLengths.{BatchLengths}

abbrev pub Even : ℕ → BatchLengths → Type 0
Even count l = EvenBy count l.lengths l.memories l.logs l.reports l.answers

pub even-lengths : (count : ℕ) (l : BatchLengths) → unevenly count l ≡ false → Even count l
even-lengths count l = even-by count l.lengths l.memories l.logs l.reports l.answers

-- where they are not all even, one is wrong
pub wrong : (count : ℕ) (l : BatchLengths) → (Even count l → ⊥) → true ≡ unevenly count l
wrong count l h = split (unevenly count l) sym (λ e. absurd (h (even-lengths count l e)))

-- where all others are, the answers decide
pub last-test : (count : ℕ) (l : BatchLengths) → 1 ≤ count → count ≤ plans_limit → l.lengths ≡ length_bytes * count → l.memories ≡ memory_length * count
    → l.logs ≡ log_length * count → l.reports ≡ report_length * count → not (eqb l.answers count) ≡ unevenly count l
last-test count l least most lengths memories logs reports =
    sym
    (simp (le-ltb count 1 least, le-ltb plans_limit count most, eq-eqb _ _ lengths, eq-eqb _ _ memories, eq-eqb _ _ logs, eq-eqb _ _ reports))

-- the number for C by what the tests gave
pub tests : (count : ℕ) (lengths : List ℕ) (l : BatchLengths) (w p s : Bool) → not (eqb l.work work_length) ≡ w → unevenly count l ≡ p
    → not (eqb (begins_at lengths count) l.files) ≡ s → code_of (batch_by w p s) ≡ batch_code count lengths l
tests count lengths l w p s ew ep es = rw (ew, ep, es)
