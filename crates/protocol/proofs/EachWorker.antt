-- A property of each worker by itself: what own steps, arrivals, another fate and the rule of a step keep is kept by every move.
-- Assumes nothing.
use Prim.Native.Nat.{ℕ, zero, suc}
use mathlib.Core.Bool.{Bool, true, false, cond}
use mathlib.Core.Path.{subst⁻¹}
use mathlib.Core.List.{List, [], ◌∷◌, map}
use lib.ListN.{get_or}
use Rattle.protocol.specs.Format.{Own, Sync, Step, own, sync, Plan, up_to}
use Rattle.protocol.specs.Steps.{QueueName, Fate, going, Worker, new_worker, fate_as, arrived_as, own_step, step_at}
use Rattle.protocol.specs.Rounds.{State, worker_at, queue_of, fate_in, rule_of, freed, member, after_ruling, apply, sync_move, new_round}
use Rattle.protocol.specs.Turns.{workers_of, start, first_worker, behind, closing, move_by, move}
use Rattle.protocol.proofs.Placed.{all_set}
use Rattle.protocol.proofs.Counting.{freed-at}

pub record KeptBy (plan : Plan) (P : Worker → Type 0) : Type 0 where
  pub owns : (memory : List ℕ) (o : Own) (v : Worker) → P v → P (own_step memory o v)
  pub arrives : (v : Worker) → P v → P (arrived_as true v)
  pub fates : (f : Fate) (v : Worker) → P v → P (fate_as f v)
  pub ruled : (queue : QueueName → List ℕ) (fates : ℕ → Fate) (v : Worker) (y : Sync) → P v → P (after_ruling (rule_of plan queue fates v.held y) v)

abbrev pub AllWorkers : (Worker → Type 0) → State → Type 0
AllWorkers P s = (w : ℕ) → P (worker_at s w)

module _ {plan : Plan} {P : Worker → Type 0} (kept : KeptBy plan P) where
  some-freed : (out : List ℕ) (vs : List Worker) → ((w : ℕ) → P (get_or vs w new_worker)) → (w : ℕ) → P (get_or (freed out vs) w new_worker)
  some-freed out vs all w = subst⁻¹ P (freed-at out vs w) (go (member w out))
    where
      go : (b : Bool) → P (cond b (fate_as going (get_or vs w new_worker)) (get_or vs w new_worker))
      go true = kept.fates going (get_or vs w new_worker) (all w)
      go false = all w

  closing-all : (ws : List ℕ) (s : State) → AllWorkers P s → AllWorkers P (closing ws s)
  unfolding new_round
  closing-all [] s all = all
  closing-all (w ∷ ws) s all = all

  pub all_moved : (s : State) (w : ℕ) → AllWorkers P s → AllWorkers P (move plan s w)
  unfolding move apply
  all_moved s w all = go (step_at plan w (worker_at s w).place) (worker_at s w).arrived
    where
      go : (t : Step) (b : Bool) → AllWorkers P (move_by plan t b w s)
      go (own o) b = all_set P new_worker s.workers w _ all (kept.owns s.memory o (worker_at s w) (all w))
      go (sync y) false = all_set P new_worker s.workers w _ all (kept.arrives (worker_at s w) (all w))
      go (sync y) true =
          closing-all (sync_move plan y w (behind s.list) s).list (sync_move plan y w (behind s.list) s)
          (all_set P new_worker (freed _ s.workers) w _ (some-freed _ s.workers all) (kept.ruled (queue_of s) (fate_in s) (worker_at s w) y (all w)))

  pub all_first : P new_worker → (memory : List ℕ) → AllWorkers P (start plan memory)
  unfolding start
  all_first new memory = go (up_to (workers_of plan))
    where
      go : (ws : List ℕ) (w : ℕ) → P (get_or (map (first_worker plan) ws) w new_worker)
      go [] w = new
      go (v ∷ vs) zero = kept.fates _ new_worker new
      go (v ∷ vs) (suc w) = go vs w
