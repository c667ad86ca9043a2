-- Six: which ops synchronise. One law over the rows of the table, by one computed test.
-- Callers want `by_number`, `from_first` and `before-first`.
-- Assumes nothing.
use Prim.Native.Nat.{ℕ, ◌+◌, ◌≤◌, ◌<◌}
use mathlib.Core.Bool.{true, false}
use mathlib.Core.Path.{◌≡◌, refl, sym, ap, ◌∙◌, subst}
use mathlib.Core.List.{List}
use mathlib.Core.Option.{Option}
use lib.Dec.{leb, eqb}
use lib.ListN.{length, get_or}
use borrow.Author.Tests.{leb-true, leb-false}
use Rattle.protocol.specs.Ops.{syncs_from}
use Rattle.protocol.specs.Format.{Record, Step, sync, exit, Row, table, row_of, is_step, step_of, syncs, syncs_by, synchronises, records, first_in}
use Rattle.protocol.specs.WellFormed.{record_at}
use Rattle.protocol.specs.Refusals.{accepted, check}
use Rattle.protocol.specs.Demands.{SyncsByNumber, SyncsByStep}
use Rattle.protocol.proofs.Bools.{and_left}
use Rattle.protocol.proofs.Tabled.{Every, Found, lacking, found, find, row-of}
use Rattle.protocol.proofs.Accepted.{AcceptedFile, accepted-file, steps-of}

-- of every row: its step synchronises, whatever the operands, just from 32 up
record RowSyncs (x : Row) : Type 0 where
  number : syncs (x.step 0 0) ≡ leb syncs_from x.op
  operands : (r k : ℕ) → syncs (x.step r k) ≡ syncs (x.step 0 0)

table_syncs : Every RowSyncs table
table_syncs = search tt depth 40 fits 4000

pub by_number : (o : ℕ) → SyncsByNumber o
unfolding synchronises
by_number o = go (row_of o) (find RowSyncs table table_syncs o)
  where
    go : (m : Option Row) → Found RowSyncs o m → syncs_by m o ≡ leb syncs_from o
    go m lacking = refl
    go m (found x p e) = p.number ∙ ap (leb syncs_from) e

pub from_first : {o : ℕ} → synchronises o ≡ true → syncs_from ≤ o
from_first {o} e = leb-true syncs_from o (sym (by_number o) ∙ e)

pub before-first : {o : ℕ} → synchronises o ≡ false → o < syncs_from
before-first {o} e = leb-false syncs_from o (sym (by_number o) ∙ e)

-- a step record's op and its step
pub by-step : (r : Record) → is_step r ≡ true → synchronises r.op ≡ syncs (step_of r)
unfolding synchronises
by-step r e =
    let f = row-of RowSyncs table_syncs r e in
    ap (λ (m : Option Row). syncs_by m r.op) f.is_row ∙ sym (ap syncs f.step ∙ f.holds.operands r.register r.number)

-- every step of an accepted file
pub steps-listed : (file : List ℕ) → check file ≡ accepted → SyncsByStep file
steps-listed file ok w k l =
    let a : AcceptedFile file = accepted-file file ok in
    let rs = records file in
    let same = steps-of rs a.records w in
    let s = a.records.read.placed w k (subst (λ (ss : List Step). k < length ss) same l) in
    let r = record_at rs (first_in rs w + k) in
    by-step r (and_left (is_step r) (eqb r.worker w) s.of_worker)
    ∙ ap syncs (sym s.step ∙ ap (λ (ss : List Step). get_or ss k (sync exit)) (sym same))
