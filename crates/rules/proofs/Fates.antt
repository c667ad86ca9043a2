-- A fate from its code: no other fate has that code, and every number is the code of one.
-- Assumes nothing.
use Prim.Native.Nat.{ℕ, ◌+◌, ◌*◌, ◌-◌, ◌/◌, ◌%◌}
use native.Mathlib.Omega.{arith}
use borrow.Author.Tests.{le-ltb, eq-eqb, ne_eqb}
use mathlib.Core.Bool.{Bool, true, false, cond, not}
use mathlib.Core.Path.{◌≡◌, refl, ap, sym, ◌∙◌}
use lib.Dec.{ltb, eqb}
use Rattle.protocol.specs.Steps.{QueueName, on_condition, at_barrier, Fate, going, exited, failed, asleep, waiting}
use Rattle.protocol.specs.Rounds.{is_waiting}
use Rattle.format.specs.Fates.{code_on_condition, code_at_barrier}
use Rattle.rules.specs.Codes.{fate_code}

-- the fate of a code
unfoldable pub fate_from : ℕ → Fate
fate_from k =
    cond (ltb k code_on_condition) (cond (eqb k 0) going (cond (eqb k 1) exited (cond (eqb k 2) failed asleep)))
    (waiting (cond (eqb (k % 2) 0) (on_condition ((k - code_on_condition) / 2)) (at_barrier ((k - code_at_barrier) / 2))))

pub fate-code : (f : Fate) → fate_from (fate_code f) ≡ f
unfolding fate_from
fate-code going = refl
fate-code exited = refl
fate-code failed = refl
fate-code asleep = refl
fate-code (waiting (on_condition c)) =
    let half : (4 + 2 * c - 4) / 2 ≡ c = omega arith in
    rw (le-ltb (4 + 2 * c) code_on_condition (omega arith), eq-eqb ((4 + 2 * c) % 2) 0 (omega arith), half)
fate-code (waiting (at_barrier b)) =
    let half : (5 + 2 * b - 5) / 2 ≡ b = omega arith in
    rw (le-ltb (5 + 2 * b) code_on_condition (omega arith), ne_eqb ((5 + 2 * b) % 2) 0 (λ e. omega arith), half)

-- so a code tells its fate
pub code-tells : (f g : Fate) → fate_code f ≡ fate_code g → f ≡ g
code-tells f g e = sym (fate-code f) ∙ (ap fate_from e ∙ fate-code g)

-- and every number is the code of a fate
pub code-fate : (k : ℕ) → fate_code (fate_from k) ≡ k
unfolding fate_from
code-fate k = grind arith

-- who waits, by the code
pub code-waits : (k : ℕ) → is_waiting (fate_from k) ≡ not (ltb k code_on_condition)
unfolding fate_from
code-waits k = go (ltb k code_on_condition) (eqb k 0) (eqb k 1) (eqb k 2) _
  where
    go : (small zero one two : Bool) (q : QueueName)
        → is_waiting (cond small (cond zero going (cond one exited (cond two failed asleep))) (waiting q)) ≡ not small
    go true true one two q = refl
    go true false true two q = refl
    go true false false true q = refl
    go true false false false q = refl
    go false zero one two q = refl
