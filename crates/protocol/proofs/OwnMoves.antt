-- A worker's own step and its arrival keep the invariant, and the measure falls.
use Prim.Native.Nat.{ℕ, ◌+◌, ◌-◌, ◌*◌, ◌<◌, ◌≤◌}
use native.Mathlib.Decide.{dec_lt}
use native.Mathlib.Nat.{le_refl, le_trans}
use native.Mathlib.Omega.{arith}
use mathlib.Core.Bool.{Bool, true, false, cond, not}
use mathlib.Core.Path.{◌≡◌, refl, sym, ◌∙◌}
use mathlib.Core.List.{List}
use lib.Dec.{eqb}
use lib.ListN.{length, set, length-set, get_or-eq_default}
use Rattle.protocol.specs.Format.{Own, assign, load, store, add, subtract, skip_zero, skip_nonzero, Step, own, sync, exit, Plan}
use Rattle.protocol.specs.Steps.{Fate, going, exited, failed, asleep, waiting, Worker, new_worker, arrived_as, register_of, own_step, steps_of, step_at}
use Rattle.protocol.specs.Rounds.{State, worker_at, worker_moved}
use Rattle.protocol.specs.Turns.{workers_of}
use Rattle.protocol.specs.Demands.{occurs}
use Rattle.protocol.proofs.Sound.{Sound}
use Rattle.protocol.proofs.Invariant.{runs, waits, rests, gone, tick, lasting, weight, weight_in, place_of, measure, Sane, Stands, Core}
use Rattle.protocol.proofs.Counting.{sum_mono, each_set, sum-falls}
use Rattle.protocol.proofs.Fence.{fenced}

-- fates

pub one-fate : (f : Fate) → runs f + waits f + rests f + gone f ≡ 1
one-fate going = refl
one-fate exited = refl
one-fate failed = refl
one-fate asleep = refl
one-fate (waiting q) = refl

pub going-runs : (f : Fate) → 0 < runs f → f ≡ going
going-runs going h = refl
going-runs exited h = absurd (omega arith)
going-runs failed h = absurd (omega arith)
going-runs asleep h = absurd (omega arith)
going-runs (waiting q) h = absurd (omega arith)

pub lasting-here : (f : Fate) (k : ℕ) → gone f ≡ 0 → lasting f k ≡ k
lasting-here going k e = refl
lasting-here exited k e = absurd (omega arith)
lasting-here failed k e = absurd (omega arith)
lasting-here asleep k e = refl
lasting-here (waiting q) k e = refl

pub lasting-gone : (f : Fate) (k : ℕ) → gone f ≡ 1 → lasting f k ≡ 0
lasting-gone going k e = absurd (omega arith)
lasting-gone exited k e = refl
lasting-gone failed k e = refl
lasting-gone asleep k e = absurd (omega arith)
lasting-gone (waiting q) k e = absurd (omega arith)

-- what the invariant says of a worker in this round's list
pub record Listed (plan : Plan) (s : State) (w : ℕ) : Type 0 where
  pub known : w < workers_of plan
  pub runs_on : (worker_at s w).fate ≡ going
  pub once : occurs w s.list ≡ 1
  pub not_next : occurs w s.next ≡ 0
  pub not_waiting : occurs w s.waiting ≡ 0
  pub awake : rests (worker_at s w).fate ≡ 0
  pub place : (worker_at s w).place ≤ length (steps_of plan w)

pub listed : (plan : Plan) (s : State) (w : ℕ) → Core plan s → 0 < occurs w s.list → Listed plan s w
listed plan s w c h = go (dec_lt w (workers_of plan))
  where
    v : Worker
    v = worker_at s w

    on : Stands (workers_of plan) w s.list s.next s.waiting v
    on = c.stands w

    go : Dec (w < workers_of plan) → Listed plan s w
    go (yes l) =
        record {
          known = l;
          runs_on = going-runs v.fate (omega (arith, on.inside l));
          once = omega (arith, on.inside l, one-fate v.fate);
          not_next = omega (arith, on.inside l, one-fate v.fate);
          not_waiting = omega (arith, on.inside l, one-fate v.fate, on.queued);
          awake = omega (arith, on.inside l, one-fate v.fate);
          place = omega (arith, on.inside l, one-fate v.fate, (c.sane w).within);
        }
    go (no nl) = absurd (omega (arith, on.outside (omega arith)))

-- whoever does not exist neither waits nor sleeps
pub idler-exists : (plan : Plan) (s : State) (w : ℕ) → Core plan s → 0 < waits (worker_at s w).fate + rests (worker_at s w).fate → w < workers_of plan
unfolding new_worker
idler-exists plan s w c l = go (dec_lt w (workers_of plan))
  where
    go : Dec (w < workers_of plan) → w < workers_of plan
    go (yes k) = k
    go (no nk) = absurd (omega (arith, rw (get_or-eq_default s.workers new_worker {n = w} (rw c.size (omega arith))) at l))

-- a step other than the end stands inside the worker's steps
pub inside-steps : (plan : Plan) (w k : ℕ) → (step_at plan w k ≡ sync exit → ⊥) → k < length (steps_of plan w)
inside-steps plan w k ne = go (dec_lt k (length (steps_of plan w)))
  where
    go : Dec (k < length (steps_of plan w)) → k < length (steps_of plan w)
    go (yes l) = l
    go (no nl) = absurd (ne (get_or-eq_default (steps_of plan w) (sync exit) (omega arith)))

-- a worker after a move of its own
pub record OneOn (steps : ℕ) (v v' : Worker) : Type 0 where
  pub sane : Sane steps v'
  pub fate : v'.fate ≡ v.fate
  pub lighter : weight steps v' < weight steps v
  pub further : v.place ≤ v'.place

-- .. which is further on, or has arrived
further-on : (steps : ℕ) (v v' : Worker) → Sane steps v → v.fate ≡ going → v'.fate ≡ going → length v'.held ≡ length v.held
    → v.place ≤ v'.place → v'.place ≤ steps → 2 * v.place + tick v.arrived < 2 * v'.place + tick v'.arrived → OneOn steps v v'
further-on steps v v' sane g g' held up in-steps more =
    record {
      sane = record {
        within = omega arith;
        held_place = omega (arith, sane.held_place);
        held_steps = omega (arith, sane.held_steps);
        still = λ z. absurd (let e : 1 ≡ 0 = (rw g' at z) in omega arith);
      };
      fate = cc;
      lighter = rw (g, g') (go v.arrived v'.arrived more);
      further = up;
    }
  where
    go : (a b : Bool) → 2 * v.place + tick a < 2 * v'.place + tick b → 2 * (steps + 1 - v'.place) - tick b < 2 * (steps + 1 - v.place) - tick a
    go true true m = omega arith
    go true false m = omega arith
    go false true m = omega arith
    go false false m = omega arith

pub own_on : (plan : Plan) → Sound plan → (memory : List ℕ) (o : Own) (w : ℕ) (v : Worker) → step_at plan w v.place ≡ own o
    → Sane (length (steps_of plan w)) v → v.fate ≡ going → OneOn (length (steps_of plan w)) v (own_step memory o v)
unfolding own_step
own_on plan sound memory o w v e sane g = go o e (inside-steps plan w v.place λ x. let z : ◌≡◌ {A = ℕ} 0 1 = cc in omega arith)
  where
    skip : (b : Bool) (k : ℕ) → v.place + 1 + k ≤ length (steps_of plan w) → v.place + 1 + cond b k 0 ≤ length (steps_of plan w)
    skip true k h = h
    skip false k h = omega arith

    go : (o : Own) → step_at plan w v.place ≡ own o → v.place < length (steps_of plan w)
        → OneOn (length (steps_of plan w)) v (own_step memory o v)
    go (assign r k) e l = further-on _ v _ sane g g refl (omega arith) (omega arith) (omega arith)
    go (load r k) e l = further-on _ v _ sane g g refl (omega arith) (omega arith) (omega arith)
    go (store r k) e l = further-on _ v _ sane g g refl (omega arith) (omega arith) (omega arith)
    go (add r k) e l = further-on _ v _ sane g g refl (omega arith) (omega arith) (omega arith)
    go (subtract r k) e l = further-on _ v _ sane g g refl (omega arith) (omega arith) (omega arith)
    go (skip_zero r k) e l =
        further-on _ v _ sane g g refl (omega arith) (skip (eqb (register_of v r) 0) k (sound.skips_zero w v.place r k e)) (omega arith)
    go (skip_nonzero r k) e l =
        further-on _ v _ sane g g refl (omega arith) (skip (not (eqb (register_of v r) 0)) k (sound.skips_nonzero w v.place r k e)) (omega arith)

-- it leaves the mark of arrival, and the locks
pub record OwnLeaves (v v' : Worker) : Type 0 where
  pub arrived : v'.arrived ≡ v.arrived
  pub held : v'.held ≡ v.held

pub own-leaves : (memory : List ℕ) (o : Own) (v : Worker) → OwnLeaves v (own_step memory o v)
unfolding own_step
own-leaves memory (assign r k) v = record { arrived = refl; held = refl }
own-leaves memory (load r k) v = record { arrived = refl; held = refl }
own-leaves memory (store r k) v = record { arrived = refl; held = refl }
own-leaves memory (add r k) v = record { arrived = refl; held = refl }
own-leaves memory (subtract r k) v = record { arrived = refl; held = refl }
own-leaves memory (skip_zero r k) v = record { arrived = refl; held = refl }
own-leaves memory (skip_nonzero r k) v = record { arrived = refl; held = refl }

arrival-on : (steps : ℕ) (v : Worker) → Sane steps v → v.fate ≡ going → v.arrived ≡ false → v.place ≤ steps → OneOn steps v (arrived_as true v)
arrival-on steps v sane g a in-steps = further-on steps v (arrived_as true v) sane g g refl (le_refl _) in-steps (rw a (omega arith))

pub fenced-on : (plan : Plan) → Sound plan → (memory : List ℕ) (w : ℕ) (v : Worker) → Sane (length (steps_of plan w)) v → v.fate ≡ going
    → v.arrived ≡ false → v.place ≤ length (steps_of plan w) → OneOn (length (steps_of plan w)) v (fenced (step_at plan w v.place) memory v)
fenced-on plan sound memory w v sane g a l = go (step_at plan w v.place) refl
  where
    go : (t : Step) → step_at plan w v.place ≡ t → OneOn (length (steps_of plan w)) v (fenced t memory v)
    go (own o) e = own_on plan sound memory o w v e sane g
    go (sync y) e = arrival-on (length (steps_of plan w)) v sane g a l

-- the whole state after such a move
module _ (plan : Plan) (s : State) (w : ℕ) (v : Worker) (c : Core plan s) (in_List : 0 < occurs w s.list)
    (on : OneOn (length (steps_of plan w)) (worker_at s w) v) where
  small : w < length s.workers
  small = rw c.size (listed plan s w c in_List).known

  pub moved-falls : measure plan (worker_moved w v s) < measure plan s
  unfolding measure
  moved-falls = sum-falls (weight_in plan) s.workers s.workers w v refl small (λ k ne. le_refl _) on.lighter

  -- its fate is as it was, and it is not in the next list
  stands_on : Stands (workers_of plan) w s.list s.next s.waiting v
  stands_on =
      record {
        inside = rw on.fate (c.stands w).inside;
        outside = (c.stands w).outside;
        queued = rw on.fate (c.stands w).queued;
        fresh = λ h. absurd (omega (arith, (listed plan s w c in_List).not_next));
      }

  pub moved-core : Core plan (worker_moved w v s)
  moved-core =
      record {
        size = length-set s.workers w v ∙ c.size;
        sane = each_set (λ k x. Sane (length (steps_of plan k)) x) s.workers w v small (λ k ne. c.sane k) on.sane;
        stands = each_set (λ k x. Stands (workers_of plan) k s.list s.next s.waiting x) s.workers w v small (λ k ne. c.stands k) stands_on;
        logged =
            le_trans c.logged
            (sum_mono place_of place_of s.workers (set s.workers w v) (sym (length-set s.workers w v))
            (λ k l. each_set (λ k x. (worker_at s k).place ≤ x.place) s.workers w v small (λ k ne. le_refl _) on.further k));
        spent = omega (arith, moved-falls, c.spent);
        rounded = omega (arith, c.rounded);
      }
