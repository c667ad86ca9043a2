-- The laws of the rules: each branch of the code as the definitions have it, and how great the number in a ruling's fate is.
-- Assumes nothing.
use Prim.Native.Nat.{ℕ, ◌≤◌}
use native.Mathlib.Omega.{arith}
use borrow.Author.Tests.{eq-eqb, ne_eqb}
use mathlib.Core.Bool.{Bool, true, false, true≢false}
use mathlib.Core.Path.{◌≡◌, refl, sym, ap, ◌∙◌, subst⁻¹}
use mathlib.Core.List.{List, [], ◌∷◌}
use lib.Dec.{eqb}
use lib.ListN.{length, get_or}
use Rattle.protocol.specs.Ops.{op_signal, op_broadcast, op_barrier, op_start}
use Rattle.protocol.specs.Rounds as rounds
use Rattle.protocol.specs.Format.{by_name, Plan}
use Rattle.protocol.specs.Rounds.{member, committed, keeps, lock_rule, unlock_rule, wait_rule, signal_rule}
use Rattle.protocol.specs.Rounds.{broadcast_rule, barrier_rule, start_rule, exit_rule, rule_of, fate_after}
use Rattle.protocol.specs.Steps as steps
use Rattle.protocol.specs.Steps.{QueueName, Fate}
use Rattle.protocol.specs.Turns.{none_left}
use Rattle.format.specs.Fates.{code_asleep}
use Rattle.locks.specs.Set.{Shows}
use Rattle.queue.specs.List.{Below}
use Rattle.queue.proofs.Laws.{some_in, below-first}
use Rattle.queue.proofs.Picked.{length-keep}
use Rattle.locks.proofs.Sets.{empty-same, shows_by}
use Rattle.rules.specs.declared.ruling.Moves.{Moves}
use Rattle.rules.specs.declared.ruling.Moves.TheVariants.{Nobody, Wakes, Starts}
use Rattle.rules.specs.declared.ruling.Ruling.{Ruling}
use Rattle.rules.specs.Codes.{fate_code, condition_code, barrier_code, goes_of, sync_of}
use Rattle.rules.specs.Rules.{found, sleepers_at, called_by, Coherent, Means, Starting, Started, RuledBy, Ruled}
use Rattle.rules.proofs.Codes.{code-asleep}
use Rattle.rules.proofs.Fates.{fate_from, code-fate}
use Rattle.rules.proofs.Found.{one-below, below-keep}

-- a ruling that moves nobody but the holder
pub calm : {number called : ℕ} {waiting fates : List ℕ} {moves : Moves} → moves ≡ Nobody → Coherent number called waiting fates moves
unfolding member
calm e =
    rw e
    record {
      below = λ w m. cc;
      few = omega arith;
      all = λ ws y. cc;
      away = λ w y. cc;
    }

-- with no lock held, and with one or more
pub held_none : {n : ℕ} (locks : List ℕ) → Shows n locks → n ≡ 0 → eqb (length locks) 0 ≡ true
held_none {n} locks s e = sym (empty-same locks s) ∙ eq-eqb n 0 e

pub held_some : {n : ℕ} (locks : List ℕ) → Shows n locks → (n ≡ 0 → ⊥) → eqb (length locks) 0 ≡ false
held_some {n} locks s ne = sym (empty-same locks s) ∙ ne_eqb n 0 ne

-- whom a signal wakes: the first of those who wait on its condition
pub woken-coherent : {number called w : ℕ} (code : ℕ) {waiting fates qs : List ℕ} → Below 8 waiting → qs ≡ found fates waiting code → none_left qs ≡ false → w ≡ get_or qs 0 0
    → Coherent number called waiting fates (Wakes w)
woken-coherent {number} {called} {w} code {waiting} {fates} {qs} below e some first =
    let t : ℕ → Bool = λ v. eqb (get_or fates v 0) code in
    let one = some_in qs some in
    record {
      below = one-below (omega (arith, first, below-first 8 qs one (rw e (below-keep 8 t waiting below))));
      few = omega (arith, one, ap length e, length-keep t waiting);
      all = λ ws z. cc;
      away = λ v z. cc;
    }

-- a start, by the code of its worker's fate: of one who is not asleep, and of a sleeper
pub starts_none : (fates : List ℕ) (target : ℕ) (held : List ℕ) (f : Fate) → get_or fates target 0 ≡ fate_code f → (get_or fates target 0 ≡ code_asleep → ⊥)
    → rounds.ruling committed held keeps [] [] 253 ≡ start_rule target f held
starts_none fates target held f e n = rw (sym (code-asleep f) ∙ ne_eqb (fate_code f) code_asleep (λ z. n (e ∙ z)))

pub starts-one : (fates : List ℕ) (target : ℕ) (held : List ℕ) (f : Fate) → get_or fates target 0 ≡ fate_code f → get_or fates target 0 ≡ code_asleep
    → rounds.ruling committed held keeps [] (target ∷ []) 1 ≡ start_rule target f held
starts-one fates target held f e y = rw (sym (code-asleep f) ∙ eq-eqb (fate_code f) code_asleep (sym e ∙ y))

pub start-coherent : {target : ℕ} {waiting fates : List ℕ} → Starting target waiting fates → get_or fates target 0 ≡ code_asleep
    → Coherent target (sleepers_at fates target) waiting fates (Starts target)
unfolding member
start-coherent {target} {waiting} {fates} s y =
    record {
      below = one-below s.named;
      few = rw (eq-eqb (get_or fates target 0) code_asleep y) (omega arith);
      all = λ ws z. cc;
      away = λ w z. other w (member w waiting) refl z;
    }
  where
    -- nobody who waits is the sleeper
    other : (w : ℕ) (b : Bool) → member w waiting ≡ b → Starts target ≡ Starts w → member w waiting ≡ false
    other w false n z = n
    other w true m z =
        let same : target ≡ w = cc in
        absurd (true≢false (sym (eq-eqb (get_or fates w 0) code_asleep (ap (λ (k : ℕ). get_or fates k 0) (sym same) ∙ y)) ∙ s.awake w m))

-- a broadcast's ruling, which no ruling of the code stands for
pub by-broadcast : {op : ℕ} → op ≡ op_broadcast → (number : ℕ) (held sizes : List ℕ) (waiting fates : List ℕ)
    → RuledBy op number held sizes waiting fates (broadcast_rule (found fates waiting (condition_code number)) held)
unfolding sync_of rule_of
by-broadcast e number held sizes waiting fates plan queue fate named met at fit target =
    rw e (ap (λ (ws : List ℕ). broadcast_rule ws held) (met (omega (arith, e)) (omega (arith, e))))

-- the rule by its op
module _ {op number held : ℕ} {locks sizes waiting fates : List ℕ} {r : Ruling} where
  ruled : {rule : List ℕ → rounds.Ruling} → Shows held locks → Means held r rule → Coherent number (called_by op number fates) waiting fates r.moves
      → RuledBy op number locks sizes waiting fates (rule locks) → Ruled op number locks sizes waiting fates r
  ruled s m sound by =
      record {
        after = _;
        shown = m.shown locks s;
        same = λ plan queue fate named met at fit target. m.same locks s ∙ by plan queue fate named met at fit target;
        coded = m.coded;
        sound = sound;
      }

  pub by-lock : op ≡ 32 → Shows held locks → Means held r (lock_rule by_name number) → r.moves ≡ Nobody → Ruled op number locks sizes waiting fates r
  unfolding sync_of rule_of
  by-lock e s m n = ruled s m (calm n) (λ plan queue fate named met at fit target. rw (e, named))

  pub by-unlock : op ≡ 33 → Shows held locks → Means held r (unlock_rule by_name number) → r.moves ≡ Nobody → Ruled op number locks sizes waiting fates r
  unfolding sync_of rule_of
  by-unlock e s m n = ruled s m (calm n) (λ plan queue fate named met at fit target. rw (e, named))

  pub by-wait : op ≡ 34 → Shows held locks → Means held r (wait_rule number) → r.moves ≡ Nobody → Ruled op number locks sizes waiting fates r
  unfolding sync_of rule_of
  by-wait e s m n = ruled s m (calm n) (λ plan queue fate named met at fit target. rw e)

  pub by-signal : op ≡ op_signal → Shows held locks → Means held r (signal_rule (found fates waiting (condition_code number)))
      → Coherent number 0 waiting fates r.moves → Ruled op number locks sizes waiting fates r
  unfolding sync_of rule_of
  by-signal e s m sound = ruled s m (rw e sound) (λ plan queue fate named met at fit target. rw (e, ← met (omega (arith, e)) (omega (arith, e))))

  pub by-barrier : op ≡ op_barrier → Shows held locks → Means held r (barrier_rule number (get_or sizes number 0) (found fates waiting (barrier_code number)))
      → Coherent number 0 waiting fates r.moves → Ruled op number locks sizes waiting fates r
  unfolding sync_of rule_of
  by-barrier e s m sound = ruled s m (rw e sound) (λ plan queue fate named met at fit target. rw (e, ← at e, fit e))

  pub by-exit : op ≡ 38 → Shows held locks → Means held r exit_rule → r.moves ≡ Nobody → Ruled op number locks sizes waiting fates r
  unfolding sync_of rule_of
  by-exit e s m n = ruled s m (calm n) (λ plan queue fate named met at fit target. rw e)

  pub by-start : op ≡ op_start → Shows held locks → Started number held waiting fates r → Ruled op number locks sizes waiting fates r
  unfolding sync_of rule_of
  by-start e s m =
      let called : called_by op number fates ≡ sleepers_at fates number = ap (λ (o : ℕ). called_by o number fates) e in
      record {
        after = locks;
        shown = shows_by s m.kept;
        same = λ plan queue fate named met at fit target. rw e (m.same (fate number) (target e) locks);
        coded = m.coded;
        sound = subst⁻¹ (λ (k : ℕ). Coherent number k waiting fates r.moves) called m.sound;
      }

-- the code of the holder's fate after a rule is at most that of who waits at the barrier of the step's number: so the fate's number is at most
-- the step's
pub rule-within : (plan : Plan) (queue : QueueName → List ℕ) (fate : ℕ → Fate) (held : List ℕ) (op number : ℕ)
    → fate_code (fate_after (rule_of plan queue fate held (sync_of op number)).goes) ≤ barrier_code number
unfolding rule_of sync_of
rule-within plan queue fate held op number = grind arith

-- and so it is after a ruling of the code
pub fate-within : {op number : ℕ} {locks sizes waiting fates : List ℕ} {r : Ruling} → Ruled op number locks sizes waiting fates r
    → fate_code (fate_after (goes_of r.goes)) ≤ barrier_code number
fate-within {op} {number} {locks} {sizes} {waiting} {fates} ruled =
    let plan : Plan = record { steps = []; sizes = sizes; sleepers = []; locks = by_name } in
    let queue : QueueName → List ℕ = λ q. found fates waiting (fate_code (steps.waiting q)) in
    let fate : ℕ → Fate = λ w. fate_from (get_or fates w 0) in
    let same = ruled.same plan queue fate refl (λ _ _. refl) (λ _. refl) (λ _. refl) (λ _. sym (code-fate (get_or fates number 0))) in
    rw (ap (λ (x : rounds.Ruling). x.goes) same) (rule-within plan queue fate locks op number)
