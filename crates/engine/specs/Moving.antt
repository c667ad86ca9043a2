-- What a synchronising move takes and leaves: values that show a state in which worker w can move, and then the state after its move.
use Rattle.std.specs.Prelude.{ℕ, ◌+◌, ◌<◌, true, ◌≡◌, List, get_or}
use Rattle.protocol.specs.Format.{workers_limit, barrier_count, synchronises, Plan, plan_of, records, size_in, first_in}
use Rattle.protocol.specs.Refusals.{check, accepted}
use Rattle.protocol.specs.Rounds.{State}
use Rattle.protocol.specs.Turns.{workers_of, can, move}
use Rattle.protocol.specs.Sum.{moved_by, move_change}
use Rattle.protocol.specs.Calls.{played_from}
use Rattle.plan.specs.declared.decode.Record.{Record}
use Rattle.moves.specs.Moves.{fetched_as}
use Rattle.engine.specs.declared.state.Schedule.{Schedule}
use Rattle.engine.specs.Kept.{Kept}
use Rattle.engine.specs.Refines.{Refines}

-- the layout of an accepted file
pub record Laid (file : List ℕ) (sizes firsts : List ℕ) : Type 0 where
  pub ok : check file ≡ accepted
  pub sizes_right : (b : ℕ) → b < barrier_count → get_or sizes b 0 ≡ size_in (records file) b
  pub firsts_right : (w : ℕ) → w < workers_limit + 1 → get_or firsts w 0 ≡ first_in (records file) w

-- the values show what some turns leave, and worker w can move there
pub record Able (file sizes firsts : List ℕ) (w : ℕ) (t : Schedule) (k : Kept) : Type 0 where
  pub laid : Laid file sizes firsts
  pub start : List ℕ
  pub turns : List ℕ
  pub refines : Refines (workers_of (plan_of file)) (played_from (plan_of file) start turns) t k
  pub able : can (played_from (plan_of file) start turns) w ≡ true

abbrev pub state_of : {file sizes firsts : List ℕ} {w : ℕ} {t : Schedule} {k : Kept} → Able file sizes firsts w t k → State
state_of {file} a = played_from (plan_of file) a.start a.turns

-- r is the step of such a worker, and synchronises
pub record Syncing (r : Record) (w : ℕ) (t : Schedule) (sizes : List ℕ) (k : Kept) : Type 0 where
  pub file : List ℕ
  pub firsts : List ℕ
  pub here : Able file sizes firsts w t k
  pub fetched : r ≡ fetched_as file (get_or firsts w 0) (get_or firsts (w + 1) 0) (get_or k.places w 0)
  pub syncs : synchronises r.op ≡ true

-- the values show the state after a worker's move, and the sum is moved by as much as the move's commit says
pub record AfterMove (plan : Plan) (s : State) (w : ℕ) (t t' : Schedule) (k' : Kept) : Type 0 where
  pub refines : Refines (workers_of plan) (move plan s w) t' k'
  pub moved : t'.sum ≡ moved_by (move_change plan s w) t.sum

abbrev pub Synced : (r : Record) (w : ℕ) (t : Schedule) (sizes : List ℕ) (k : Kept) → Schedule → Kept → Type 0
Synced r w t sizes k t' k' = (h : Syncing r w t sizes k) → AfterMove (plan_of h.file) (state_of h.here) w t t' k'
