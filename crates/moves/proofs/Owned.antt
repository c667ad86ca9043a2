-- The laws of an own step on the lent bytes. Callers want `own-ready` and `step-of-own`.
use Prim.Native.Nat.{ℕ, ◌≤◌}
use mathlib.Core.Bool.{Bool, true, false, cond}
use mathlib.Core.Path.{◌≡◌, refl, sym, ap, ◌∙◌, subst⁻¹}
use mathlib.Core.List.{List, []}
use lib.Dec.{eqb}
use Rattle.std.proofs.Common.{Option}
use lib.ListN.{length}
use borrow.Author.Tests.{eq-eqb, ne_eqb}
use Rattle.protocol.specs.Ops.{op_load, op_store, op_add, op_subtract, op_skip_zero, op_skip_nonzero}
use Rattle.protocol.specs.Format.{steps_limit, Own, assign, load, store, add, subtract, skip_zero, skip_nonzero, own, synchronises}
use Rattle.protocol.specs.Pages.{Copies, load_word}
use Rattle.protocol.specs.Steps as steps
use Rattle.protocol.specs.Steps.{Fate, going, own_step}
use Rattle.plan.specs.Answer.{record_of}
use Rattle.plan.specs.declared.decode.Record.{Record}
use Rattle.pages.specs.Copies.{copies_in, WorkerHolds, slot_count}
use Rattle.worker.proofs.OwnSteps.{step-own}
use Rattle.worker.specs.Private.{viewed, own_of, copies_stored, OwnStepped}
use Rattle.worker.specs.declared.Worker.{Worker}
use Rattle.worker.specs.declared.Moved.{Moved}
use Rattle.moves.specs.Moves.{step_of_body, InRange, OwnMoving, copies_left, OwnMoved}

-- the step of a record in range that does not synchronise
pub step-of-own : {n : ℕ} {sizes : List ℕ} (r : Record) → InRange n sizes r → synchronises r.op ≡ false → step_of_body r ≡ own (own_of r.op r.register r.number)
unfolding step_of_body
step-of-own r i e = step-own (record_of r) (i.own e).0 (i.own e).1

-- .. by a worker within its steps
pub own-ready : {n : ℕ} {sizes : List ℕ} (v : Worker) (r : Record) → InRange n sizes r → synchronises r.op ≡ false → v.place ≤ steps_limit → OwnMoving v r
own-ready v r i e place =
    let most = (i.own e).1 in
    record {
      ready =
          record {
            place = place;
            least = (i.own e).0;
            most = most;
            named = i.named most;
            operand = i.operand;
            skip = λ h. (i.skip h most).1;
          };
      address = i.address;
    }

-- nothing is stored
pub kept : (w : ℕ) (copies : Copies) (marks : List Bool) (work : List ℕ) → copies ≡ copies_in marks work w → WorkerHolds w copies marks work marks work
kept w copies marks work e = record { mine = sym e; others = λ v n. refl; size = refl; mark_size = refl }

module _ (op : ℕ) (outcome : Option ℕ) (memory : List ℕ) (copies : Copies) (address : ℕ) where
  by-op : (b : Bool) → eqb op op_store ≡ b → copies_left op outcome memory copies address ≡ cond b (copies_stored outcome memory copies address) copies
  by-op b e = ap (λ (t : Bool). cond t (copies_stored outcome memory copies address) copies) e

  pub left-store : op ≡ op_store → copies_left op outcome memory copies address ≡ copies_stored outcome memory copies address
  left-store e = by-op true (eq-eqb op op_store e)

  pub left_other : (op ≡ op_store → ⊥) → copies_left op outcome memory copies address ≡ copies
  left_other n = by-op false (ne_eqb op op_store n)

pick : (P : Own → Type 0) (b : Bool) {x y : Own} → P x → P y → P (cond b x y)
pick P true p q = p
pick P false p q = q

-- an own step that is no store leaves the copies
own-copies : (memory : List ℕ) (op register number : ℕ) (v : steps.Worker) → eqb op op_store ≡ false → (own_step memory (own_of op register number) v).copies ≡ v.copies
unfolding own_of own_step
own-copies memory op register number v e =
    pick P (eqb op op_load) {x = load register number} refl
    (subst⁻¹ (λ (b : Bool). P (cond b (store register number) rest)) e
    (pick P (eqb op op_add) {x = add register number} refl
    (pick P (eqb op op_subtract) {x = subtract register number} refl
    (pick P (eqb op op_skip_zero) {x = skip_zero register number} refl
    (pick P (eqb op op_skip_nonzero) {x = skip_nonzero register number} {y = assign register number} refl refl)))))
  where
    P : Own → Type 0
    P o = (own_step memory o v).copies ≡ v.copies

    rest : Own
    rest =
        cond (eqb op op_add) (add register number)
        (cond (eqb op op_subtract) (subtract register number)
        (cond (eqb op op_skip_zero) (skip_zero register number)
        (cond (eqb op op_skip_nonzero) (skip_nonzero register number) (assign register number))))

-- the parts of an own step make the whole
pub own-moved :
    (v : Worker) (r : Record) (w : ℕ) (memory : List ℕ) (marks : List Bool) (work : List ℕ) (marks' : List Bool) (work' : List ℕ) (read : ℕ) (m : Moved (Option ℕ))
    → length marks ≡ slot_count
    → (r.op ≡ op_load → read ≡ load_word memory (copies_in marks work w) r.number)
    → OwnStepped v r.op r.register r.number read m
    → WorkerHolds w (copies_left r.op m.outcome memory (copies_in marks work w) r.number) marks work marks' work'
    → OwnMoved v r w memory marks work marks' work' m.worker
own-moved v r w memory marks work marks' work' read m eight loads stepped holds =
    record {
      worker = λ locks arrived fate. step locks arrived fate ∙ ap (λ (cs : Copies). viewed m.worker locks arrived cs fate) (same (eqb r.op op_store) refl ∙ sym holds.mine);
      others = holds.others;
      size = holds.size;
      mark_size = holds.mark_size ∙ eight;
      held = stepped.held;
    }
  where
    copies : Copies
    copies = copies_in marks work w

    after : Copies
    after = copies_stored m.outcome memory copies r.number

    o : Own
    o = own_of r.op r.register r.number

    step : (locks : List ℕ) (arrived : Bool) (fate : Fate) → own_step memory o (viewed v locks arrived copies fate) ≡ viewed m.worker locks arrived after fate
    step locks arrived fate = stepped.step memory locks arrived copies fate loads

    same : (b : Bool) → eqb r.op op_store ≡ b → after ≡ copies_left r.op m.outcome memory copies r.number
    same true e = sym (ap (λ (t : Bool). cond t after copies) e)
    same false e =
        sym (ap (λ (u : steps.Worker). u.copies) (step [] false going))
        ∙ (own-copies memory r.op r.register r.number (viewed v [] false copies going) e ∙ sym (ap (λ (t : Bool). cond t after copies) e))
