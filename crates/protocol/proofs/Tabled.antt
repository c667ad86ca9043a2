-- The paper's table of steps: of every row, what its step is. One law over the rows.
-- Ops stand outside the table in `Format.is_skip`, in `Rounds.op_of`, in `own_of` of crate worker and in `sync_of` of crate rules: `step_op-step_of` ties
-- `op_of` to the table, `step_skip` ties `is_skip`; `step-of-own` (moves/proofs/Owned) and `step-of-sync` (engine/proofs/Here) the other two.
use Prim.Native.Nat.{ℕ}
use mathlib.Core.Bool.{Bool, true, false, cond, false≢true}
use mathlib.Core.Path.{◌≡◌, refl, ap, ◌∙◌}
use mathlib.Core.List.{List, [], ◌∷◌}
use mathlib.Core.Option.{Option, none, some}
use lib.Dec.{eqb}
use borrow.Author.Tests.{eqb-true}
use Rattle.protocol.specs.Ops.{op_set, op_load, op_store, op_add, op_subtract, op_skip_zero, op_skip_nonzero}
use Rattle.protocol.specs.Format.{Record, Own, assign, load, store, add, subtract, skip_zero, skip_nonzero, Step, own, sync, exit, Row, table, row_in, row_of, known, is_step, is_skip, step_of}
use Rattle.protocol.specs.Rounds.{op_of}

-- what holds of every row
abbrev pub Every : (Row → Type 0) → List Row → Type 0
Every P [] = Unit {0}
Every P (x ∷ xs) = P x × Every P xs

-- the row that an op has, if it has one
pub data Found (P : Row → Type 0) (o : ℕ) : Option Row → Type 0 where
  lacking : Found P o none
  found : (x : Row) → P x → x.op ≡ o → Found P o (some x)

pub find : (P : Row → Type 0) (xs : List Row) → Every P xs → (o : ℕ) → Found P o (row_in xs o)
unfolding row_in
find P [] every o = lacking
find P (x ∷ xs) every o = go (find P xs every.1 o) (eqb x.op o) refl
  where
    go : Found P o (row_in xs o) → (b : Bool) → eqb x.op o ≡ b → Found P o (cond b (some x) (row_in xs o))
    go rest true e = found x every.0 (eqb-true x.op o e)
    go rest false e = rest

-- The number of a step's op, and how far a step skips: 0 if it is no skip.
abbrev pub own_op : Own → ℕ
own_op (assign r k) = op_set
own_op (load r a) = op_load
own_op (store r a) = op_store
own_op (add r q) = op_add
own_op (subtract r q) = op_subtract
own_op (skip_zero r k) = op_skip_zero
own_op (skip_nonzero r k) = op_skip_nonzero

abbrev pub step_op : Step → ℕ
step_op (own o) = own_op o
step_op (sync y) = op_of y

abbrev own_skip : Own → ℕ
own_skip (assign r k) = 0
own_skip (load r a) = 0
own_skip (store r a) = 0
own_skip (add r q) = 0
own_skip (subtract r q) = 0
own_skip (skip_zero r k) = k
own_skip (skip_nonzero r k) = k

abbrev pub skip_length : Step → ℕ
skip_length (own o) = own_skip o
skip_length (sync y) = 0

pub record Right (x : Row) : Type 0 where
  pub op : (r k : ℕ) → step_op (x.step r k) ≡ x.op
  pub skip : (r k : ℕ) → skip_length (x.step r k) ≡ cond (is_skip x.op) k 0

table_right : Every Right table
table_right = search tt depth 40 fits 4000

-- The row of a step record, with what holds of every row.
pub record RowOf (P : Row → Type 0) (r : Record) : Type 0 where
  pub row : Row
  pub holds : P row
  pub op : row.op ≡ r.op
  pub is_row : row_of r.op ≡ some row
  pub step : step_of r ≡ row.step r.register r.number

pub row-of : (P : Row → Type 0) → Every P table → (r : Record) → is_step r ≡ true → RowOf P r
unfolding known step_of
row-of P every r e = go (row_of r.op) (find P table every r.op) refl e
  where
    go : (o : Option Row) → Found P r.op o → row_of r.op ≡ o → elim o [ none ↦ false | some x ↦ true ] ≡ true → RowOf P r
    go o lacking q h = absurd (false≢true h)
    go o (found x p f) q h =
        record {
          row = x;
          holds = p;
          op = f;
          is_row = q;
          step = ap (λ (o : Option Row). elim o [ none ↦ sync exit | some y ↦ y.step r.register r.number ]) q;
        }

-- its step has its op, and skips as far as its number says
pub step_op-step_of : (r : Record) → is_step r ≡ true → step_op (step_of r) ≡ r.op
step_op-step_of r e = let f = row-of Right table_right r e in ap step_op f.step ∙ (f.holds.op r.register r.number ∙ f.op)

pub step_skip : (r : Record) → is_step r ≡ true → skip_length (step_of r) ≡ cond (is_skip r.op) r.number 0
step_skip r e =
    let f = row-of Right table_right r e in
    ap skip_length f.step ∙ (f.holds.skip r.register r.number ∙ ap (λ (k : ℕ). cond (is_skip k) r.number 0) f.op)
