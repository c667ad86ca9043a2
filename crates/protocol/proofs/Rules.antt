-- Every rule of Rounds is lawful.
use Prim.Native.Nat.{ℕ, ◌+◌, ◌-◌, ◌<◌, ◌≤◌}
use native.Mathlib.Decide.{ℕ_discrete}
use native.Mathlib.Nat.{le_refl}
use native.Mathlib.Omega.{arith}
use mathlib.Core.Bool.{Bool, true, false, cond, not}
use mathlib.Core.Path.{◌≡◌, refl, sym, ap, ◌∙◌}
use mathlib.Core.List.{List, [], append-nil}
use lib.Dec.{eqb, ltb}
use lib.ListN.{length, get_or}
use Rattle.protocol.specs.Format.{Sync, lock, unlock, wait, signal, broadcast, barrier, start_worker, exit, sync, Discipline, Plan}
use Rattle.protocol.specs.Steps.{QueueName, on_condition, at_barrier, Fate, going, exited, failed, asleep, waiting, steps_of, step_at}
use Rattle.protocol.specs.Rounds.{Ruling, State, worker_at, waits_on, keep, queue_of, fate_in, is_asleep, Uncommitted, lost, Goes, keeps, gives, leaves, ruling, failure, gives_at_zero}
use Rattle.protocol.specs.Rounds.{lock_fails, unlock_fails, unlocked}
use Rattle.protocol.specs.Rounds.{lock_rule, unlock_rule, wait_rule, wake_rule, signal_rule, broadcast_rule, barrier_rule, start_rule, exit_rule, rule_of, fate_after, has_arrived}
use Rattle.protocol.specs.Demands.{occurs}
use Rattle.protocol.proofs.Bools.{split}
use Rattle.protocol.proofs.Invariant.{runs, waits, rests, gone, Core}
use Rattle.protocol.proofs.Counting.{clash, occurs-one, occurs-none, occurs-empty, occurs-take, occurs-kept, occurs-dropped}
use Rattle.protocol.proofs.OwnMoves.{Listed, inside-steps}
use Rattle.protocol.proofs.Locks.{locked-more, unlocked-fewer}
use Rattle.protocol.proofs.Rulings.{Leaving, Lawful}

-- the queue of a condition or a barrier is a part of the waiting list, and all in it have arrived as it asks

queue-counts : (s : State) (q : QueueName) (w : ℕ) → occurs w (queue_of s q) ≤ occurs w s.waiting
unfolding queue_of
queue-counts s q w = go (waits_on q (worker_at s w).fate) refl
  where
    go : (b : Bool) → waits_on q (worker_at s w).fate ≡ b → occurs w (keep (λ w. waits_on q (worker_at s w).fate) s.waiting) ≤ occurs w s.waiting
    go true p = omega (arith, occurs-kept (λ w. waits_on q (worker_at s w).fate) w s.waiting p)
    go false p = omega (arith, occurs-dropped (λ w. waits_on q (worker_at s w).fate) w s.waiting p)

queue-waits : (s : State) (q : QueueName) (w : ℕ) → 0 < occurs w (queue_of s q) → waits_on q (worker_at s w).fate ≡ true
unfolding queue_of
queue-waits s q w l = go (waits_on q (worker_at s w).fate) refl
  where
    go : (b : Bool) → waits_on q (worker_at s w).fate ≡ b → b ≡ true
    go true p = refl
    go false p = absurd (omega (arith, occurs-dropped (λ w. waits_on q (worker_at s w).fate) w s.waiting p))

waits-runs : (q : QueueName) (f : Fate) → waits_on q f ≡ true → runs f ≡ 0
waits-runs q going e = clash e
waits-runs q exited e = refl
waits-runs q failed e = refl
waits-runs q asleep e = refl
waits-runs q (waiting p) e = refl

waits-arrived : (q : QueueName) (f : Fate) → waits_on q f ≡ true → has_arrived f ≡ has_arrived (waiting q)
waits-arrived q going e = clash e
waits-arrived q exited e = clash e
waits-arrived q failed e = clash e
waits-arrived q asleep e = clash e
waits-arrived (on_condition c) (waiting (on_condition d)) e = refl
waits-arrived (on_condition c) (waiting (at_barrier d)) e = clash e
waits-arrived (at_barrier c) (waiting (on_condition d)) e = clash e
waits-arrived (at_barrier c) (waiting (at_barrier d)) e = refl

pub queue-arrived : (plan : Plan) (s : State) (q : QueueName) (w : ℕ) → Core plan s → 0 < occurs w (queue_of s q)
    → (worker_at s w).arrived ≡ has_arrived (waiting q)
queue-arrived plan s q w c l =
    let e : waits_on q (worker_at s w).fate ≡ true = queue-waits s q w l in
    (c.sane w).still (waits-runs q (worker_at s w).fate e) ∙ waits-arrived q (worker_at s w).fate e

-- a sleeper rests, has not arrived, and does not run

pub record Sleeper (f : Fate) : Type 0 where
  pub resting : rests f ≡ 1
  pub still : runs f ≡ 0
  pub away : has_arrived f ≡ false

pub sleeper : (f : Fate) → is_asleep f ≡ true → Sleeper f
sleeper going e = clash e
sleeper exited e = clash e
sleeper failed e = clash e
sleeper asleep e = record { resting = refl; still = refl; away = refl }
sleeper (waiting q) e = clash e

pub waiter-awake : (f : Fate) → 0 < waits f → is_asleep f ≡ false
waiter-awake going h = refl
waiter-awake exited h = refl
waiter-awake failed h = refl
waiter-awake asleep h = absurd (omega arith)
waiter-awake (waiting q) h = refl

-- the rules

module _ (plan : Plan) (s : State) (h : ℕ) (c : Core plan s) (l : Listed plan s h) where
  -- a rule that moves nobody but the holder
  quiet : (b : Uncommitted) (ks : List ℕ) (g : Goes) (o : ℕ) → length ks ≤ (worker_at s h).place + 1 → length ks ≤ length (steps_of plan h)
      → (worker_at s h).place + 1 ≤ length (steps_of plan h) + gone (fate_after g) → Leaving g → Lawful plan s h (ruling b ks g [] [] o)
  quiet b ks g o p q t lv =
      record {
        out = λ w. omega (arith, occurs-empty w);
        woken = λ w z. absurd (omega (arith, occurs-empty w));
        joined = λ w z. absurd (omega (arith, occurs-empty w));
        held_place = p;
        held_steps = q;
        within = t;
        leaving = lv;
      }

  fails : Lawful plan s h (failure (worker_at s h).held)
  fails =
      quiet lost (worker_at s h).held (leaves failed) 254 (omega (arith, (c.sane h).held_place)) (c.sane h).held_steps (omega (arith, l.place)) refl

  -- a rule that goes by a test is lawful if both of its ways are
  by-test : (b : Bool) (R R' : Ruling) → Lawful plan s h R → Lawful plan s h R' → Lawful plan s h (cond b R R')
  by-test true R R' one other = one
  by-test false R R' one other = other

  exits : Lawful plan s h (exit_rule (worker_at s h).held)
  exits =
      by-test (not (eqb (length (worker_at s h).held) 0)) _ _ fails
      (quiet _ _ (leaves exited) _ (omega (arith, (c.sane h).held_place)) (c.sane h).held_steps (omega (arith, l.place)) refl)

  -- all but the exit stand inside the steps
  module _ (i : (worker_at s h).place < length (steps_of plan h)) where
    locks : (d : Discipline) (k : ℕ) → Lawful plan s h (lock_rule d k (worker_at s h).held)
    locks d k =
        let more = locked-more d k (worker_at s h).held in
        by-test (lock_fails d k (worker_at s h).held) _ _ fails
        (quiet _ _ keeps _ (omega (arith, more, (c.sane h).held_place)) (omega (arith, more, (c.sane h).held_place)) (omega arith) tt)

    gives-or-keeps : (b : Bool) → (gone (fate_after (cond b gives keeps)) ≡ 0) × Leaving (cond b gives keeps)
    gives-or-keeps true = (refl, tt)
    gives-or-keeps false = (refl, tt)

    unlocks : (d : Discipline) (k : ℕ) → Lawful plan s h (unlock_rule d k (worker_at s h).held)
    unlocks d k =
        let left = unlocked d k (worker_at s h).held in
        let fewer = unlocked-fewer d k (worker_at s h).held in
        let goes = gives-or-keeps (eqb (length left) 0) in
        by-test (unlock_fails d k (worker_at s h).held) _ _ fails
        (quiet _ left (gives_at_zero (length left)) _ (omega (arith, fewer, (c.sane h).held_place)) (omega (arith, fewer, (c.sane h).held_steps))
        (omega (arith, goes.0)) goes.1)

    waits-on : (q : ℕ) → Lawful plan s h (wait_rule q (worker_at s h).held)
    waits-on q =
        by-test (eqb (length (worker_at s h).held) 0) _ _ fails
        (quiet _ _ (leaves (waiting (on_condition q))) _ (omega (arith, (c.sane h).held_place)) (c.sane h).held_steps (omega arith) refl)

    -- some or all of a condition's queue go behind the holder, however many, whatever the outcome
    wakes-some : (q : ℕ) (ws : List ℕ) (o : ℕ) → ((w : ℕ) → occurs w ws ≤ occurs w (queue_of s (on_condition q)))
        → Lawful plan s h (wake_rule ws (worker_at s h).held o)
    wakes-some q ws o some =
        let goes = gives-or-keeps (eqb (length (worker_at s h).held) 0) in
        record {
          out = λ w. omega (arith, ap (occurs w) (append-nil ws), some w, queue-counts s (on_condition q) w);
          woken = λ w z. queue-arrived plan s (on_condition q) w c (omega (arith, some w));
          joined = λ w z. absurd (omega (arith, occurs-empty w));
          held_place = omega (arith, (c.sane h).held_place);
          held_steps = (c.sane h).held_steps;
          within = omega (arith, goes.0);
          leaving = goes.1;
        }

    signals : (q : ℕ) → Lawful plan s h (signal_rule (queue_of s (on_condition q)) (worker_at s h).held)
    signals q = wakes-some q _ _ (λ w. occurs-take w 1 (queue_of s (on_condition q)))

    broadcasts : (q : ℕ) → Lawful plan s h (broadcast_rule (queue_of s (on_condition q)) (worker_at s h).held)
    broadcasts q = wakes-some q _ _ (λ w. le_refl (occurs w (queue_of s (on_condition q))))

    meets : (b : ℕ) (size : ℕ) → Lawful plan s h (barrier_rule b size (queue_of s (at_barrier b)) (worker_at s h).held)
    meets b size =
        by-test (not (eqb (length (worker_at s h).held) 0)) _ _ fails
        (by-test (ltb (length (queue_of s (at_barrier b))) (size - 1)) _ _
        (quiet _ _ (leaves (waiting (at_barrier b))) _ (omega (arith, (c.sane h).held_place)) (c.sane h).held_steps (omega arith) refl)
        record {
          out = λ w. omega (arith, queue-counts s (at_barrier b) w);
          woken = λ w z. absurd (omega (arith, occurs-empty w));
          joined = λ w z. queue-arrived plan s (at_barrier b) w c z;
          held_place = omega (arith, (c.sane h).held_place);
          held_steps = (c.sane h).held_steps;
          within = omega arith;
          leaving = tt;
        })

    starts : (v : ℕ) → Lawful plan s h (start_rule v (fate_in s v) (worker_at s h).held)
    starts v =
        split (is_asleep (fate_in s v))
        (λ e.
        let z : Sleeper (fate_in s v) = sleeper (fate_in s v) e in
        rw e
        record {
          out = λ w. elim (ℕ_discrete w v) [
            | yes p ↦ rw p (omega (arith, occurs-one v, z.resting))
            | no p ↦ omega (arith, occurs-none w v p)
          ];
          woken = λ w o. absurd (omega (arith, occurs-empty w));
          joined = λ w o. elim (ℕ_discrete w v) [
            | yes p ↦ rw p ((c.sane v).still z.still ∙ z.away)
            | no p ↦ absurd (omega (arith, occurs-none w v p))
          ];
          held_place = omega (arith, (c.sane h).held_place);
          held_steps = (c.sane h).held_steps;
          within = omega arith;
          leaving = tt;
        })
        (λ e. rw e (quiet _ _ keeps _ (omega (arith, (c.sane h).held_place)) (c.sane h).held_steps (omega arith) tt))

-- a step record's step: the end acts as the exit
abbrev is_real : Sync → Bool
is_real (lock k) = true
is_real (unlock k) = true
is_real (wait q) = true
is_real (signal q) = true
is_real (broadcast q) = true
is_real (barrier b) = true
is_real (start_worker v) = true
is_real exit = false

real-inside : (plan : Plan) (w k : ℕ) (y : Sync) → is_real y ≡ true → step_at plan w k ≡ sync y → k < length (steps_of plan w)
real-inside plan w k y r e =
    inside-steps plan w k λ x. let z : y ≡ exit = cc in clash (sym (ap is_real z) ∙ r)

pub rule-lawful : (plan : Plan) (s : State) (h : ℕ) (y : Sync) → Core plan s → Listed plan s h → step_at plan h (worker_at s h).place ≡ sync y
    → Lawful plan s h (rule_of plan (queue_of s) (fate_in s) (worker_at s h).held y)
unfolding rule_of
rule-lawful plan s h y c l e = go y e
  where
    k : ℕ
    k = (worker_at s h).place

    go : (y : Sync) → step_at plan h (worker_at s h).place ≡ sync y → Lawful plan s h (rule_of plan (queue_of s) (fate_in s) (worker_at s h).held y)
    go (lock n) e = locks plan s h c l (real-inside plan h k (lock n) refl e) plan.locks n
    go (unlock n) e = unlocks plan s h c l (real-inside plan h k (unlock n) refl e) plan.locks n
    go (wait q) e = waits-on plan s h c l (real-inside plan h k (wait q) refl e) q
    go (signal q) e = signals plan s h c l (real-inside plan h k (signal q) refl e) q
    go (broadcast q) e = broadcasts plan s h c l (real-inside plan h k (broadcast q) refl e) q
    go (barrier b) e = meets plan s h c l (real-inside plan h k (barrier b) refl e) b (get_or plan.sizes b 0)
    go (start_worker v) e = starts plan s h c l (real-inside plan h k (start_worker v) refl e) v
    go exit e = exits plan s h c l
