-- The laws that this machine obeys, for any plan and state: what the theorem on machines asks.
use Prim.Native.Nat.{ℕ, suc, ◌+◌, ◌*◌, ◌<◌, ◌≤◌}
use native.Mathlib.Decide.{dec_lt}
use native.Mathlib.Omega.{arith}
use mathlib.Core.Bool.{Bool, true, false, not, ◌&&◌, ◌||◌}
use mathlib.Core.Path.{◌≡◌, refl, sym, ap, ◌∙◌, subst⁻¹}
use mathlib.Core.List.{List, [], ◌∷◌, map, append-nil}
use lib.Dec.{eqb}
use lib.ListN.{length, get_or, get_or-eq_default}
use borrow.Author.Tests.{eq-eqb}
use Rattle.protocol.specs.Format.{Step, own, sync, Sync, Plan, count_from, up_to}
use Rattle.protocol.specs.Steps.{Worker, new_worker, fate_as, steps_of, step_at}
use Rattle.protocol.specs.Rounds.{State, worker_at, worker_moved, queue_of, fate_in, Ruling, rule_of, apply, sync_move, new_round, member}
use Rattle.protocol.specs.Turns.{workers_of, sleeps, first_fate, first_worker, start, all_arrived, can, behind, closing, closed, move_by, move, ended, none_left}
use Rattle.protocol.specs.RoundRun.{total, move_limit}
use Rattle.protocol.specs.Demands.{occurs, Prefix}
use Rattle.protocol.proofs.Bools.{split, or-holds}
use Rattle.protocol.proofs.Lists.{length-counted, mapped}
use Rattle.protocol.proofs.Sound.{Sound}
use Rattle.protocol.proofs.Invariant.{sum_of, weight, measure, Sane, Stands, Core, Inv}
use Rattle.protocol.proofs.Counting.{clash, occurs-empty, occurs-kept, occurs-dropped, occurs-above, occurs-within, member-some}
use Rattle.protocol.proofs.Fence.{Can, runs_up, holds, can-view, can-run_up, can-hold, both-fenced, in_list, fence-move, fenced-commute, fenced-stays, fenced_at}
use Rattle.protocol.proofs.OwnMoves.{OneOn, Listed, listed, fenced-on, own_on, moved-falls, moved-core}
use Rattle.protocol.proofs.Rulings.{Lawful, applied-falls, applied-core}
use Rattle.protocol.proofs.Rules.{rule-lawful}

-- the start

-- nobody has moved, and a sleeper may yet make all its moves
first-weight : (steps : ℕ) (b : Bool) → weight steps (fate_as (first_fate b) new_worker) ≡ 2 * (steps + 1)
unfolding new_worker
first-weight steps true = omega arith
first-weight steps false = omega arith

weights-at-start : (t : ℕ → Bool) (steps : List (List Step)) (i : ℕ)
    → sum_of (λ w v. weight (length (get_or steps w [])) v) (map (λ w. fate_as (first_fate (t w)) new_worker) (count_from (length steps) i)) ≡ 2 * (total steps + length steps)
unfolding sum_of total count_from
weights-at-start t [] i = refl
weights-at-start t (x ∷ xs) i = omega (arith, first-weight (length x) (t i), weights-at-start t xs (suc i))

-- a worker at the start
pub start-worker : (plan : Plan) (memory : List ℕ) (w : ℕ) (P : Worker → Type 0) → (w < workers_of plan → P (first_worker plan w))
    → (workers_of plan ≤ w → P new_worker) → P (worker_at (start plan memory) w)
unfolding start
start-worker plan memory w P inside outside = elim (dec_lt w (workers_of plan)) [
  | yes l ↦ subst⁻¹ P (mapped (first_worker plan) (workers_of plan) w new_worker l) (inside l)
  | no l ↦
      subst⁻¹ P
      (get_or-eq_default (map (first_worker plan) (up_to (workers_of plan))) new_worker (omega (arith, length-counted (first_worker plan) (workers_of plan) 0)))
      (outside (omega arith))
]

pub start-measure : (plan : Plan) (memory : List ℕ) → measure plan (start plan memory) ≡ move_limit plan
unfolding measure start
start-measure plan memory = omega (arith, weights-at-start (sleeps plan) plan.steps 0)

pub start-inv : (plan : Plan) (memory : List ℕ) → Sound plan → Inv plan (start plan memory)
unfolding start new_worker
start-inv plan memory sound =
    record {
      core = record {
        size = length-counted (first_worker plan) (workers_of plan) 0;
        sane = λ w. start-worker plan memory w (Sane (length (steps_of plan w))) (λ l. new-sane (length (steps_of plan w)) (sleeps plan w)) (λ l. new-sane (length (steps_of plan w)) false);
        stands = λ w. start-worker plan memory w (Stands (workers_of plan) w awake [] []) (λ l. new-stands w (sleeps plan w) refl) (λ l. none-stands w l);
        logged = omega arith;
        spent = omega (arith, start-measure plan memory);
        rounded = omega arith;
      };
      shut = λ e. refl;
    }
  where
    awake : List ℕ
    awake = (start plan memory).list

    -- whoever does not exist is not in the list, asleep or not
    none-stands : (w : ℕ) → workers_of plan ≤ w → Stands (workers_of plan) w awake [] [] new_worker
    none-stands w l =
        let none = split (sleeps plan w) (λ e. occurs-dropped (λ v. not (sleeps plan v)) w (up_to (workers_of plan)) (ap not e))
        (λ e. occurs-kept (λ v. not (sleeps plan v)) w (up_to (workers_of plan)) (ap not e) ∙ occurs-above (workers_of plan) 0 w (omega arith)) in
        record {
          inside = λ k. absurd (omega arith);
          outside = λ k. omega (arith, none, occurs-empty w);
          queued = occurs-empty w;
          fresh = λ k. absurd (omega (arith, occurs-empty w));
        }

    new-sane : (steps : ℕ) (b : Bool) → Sane steps (fate_as (first_fate b) new_worker)
    new-sane steps true = record { within = omega arith; held_place = omega arith; held_steps = omega arith; still = λ z. refl }
    new-sane steps false = record { within = omega arith; held_place = omega arith; held_steps = omega arith; still = λ z. absurd (omega arith) }

    new-stands : (w : ℕ) (b : Bool) → sleeps plan w ≡ b → Stands (workers_of plan) w awake [] [] (fate_as (first_fate b) new_worker)
    new-stands w true e =
        let none = occurs-dropped (λ v. not (sleeps plan v)) w (up_to (workers_of plan)) (ap not e) in
        record {
          inside = λ l. omega (arith, none, occurs-empty w);
          outside = λ l. omega (arith, none, occurs-empty w);
          queued = occurs-empty w;
          fresh = λ l. absurd (omega (arith, occurs-empty w));
        }
    new-stands w false e =
        let all = occurs-kept (λ v. not (sleeps plan v)) w (up_to (workers_of plan)) (ap not e) in
        record {
          inside = λ l. omega (arith, all, occurs-within (workers_of plan) 0 w (omega arith) (omega arith), occurs-empty w);
          outside = λ l. omega (arith, all, occurs-above (workers_of plan) 0 w (omega arith), occurs-empty w);
          queued = occurs-empty w;
          fresh = λ l. absurd (omega (arith, occurs-empty w));
        }

-- the end of a round

pub round-core : (plan : Plan) (s : State) → Core plan s → s.rounds < s.moves → s.list ≡ [] → Core plan (new_round s)
unfolding new_round measure
round-core plan s c r e =
    record {
      size = c.size;
      sane = c.sane;
      stands = λ w.
          let z : occurs w s.list ≡ 0 = rw e (occurs-empty w) in
          record {
            inside = λ l. omega (arith, (c.stands w).inside l, occurs-empty w);
            outside = λ l. omega (arith, (c.stands w).outside l, occurs-empty w);
            queued = (c.stands w).queued;
            fresh = λ l. absurd (omega (arith, occurs-empty w));
          };
      logged = c.logged;
      spent = c.spent;
      rounded = omega arith;
    }

-- the round closes with an emptied list, and the next list is empty then
pub closed-inv : (plan : Plan) (s : State) → Core plan s → s.rounds < s.moves → Inv plan (closed s)
unfolding new_round
closed-inv plan s c r = go s.list refl
  where
    go : (ws : List ℕ) → s.list ≡ ws → Inv plan (closing ws s)
    go [] e = record { core = round-core plan s c r e; shut = λ z. refl }
    go (w ∷ ws) e = record { core = c; shut = λ z. clash (ap none_left (sym e ∙ z)) }

closed-measure : (plan : Plan) (ws : List ℕ) (s : State) → measure plan (closing ws s) ≡ measure plan s
unfolding measure new_round
closed-measure plan [] s = refl
closed-measure plan (w ∷ ws) s = refl

-- The invariant is kept and the measure falls, together.

record Progress (plan : Plan) (s s' : State) : Type 0 where
  inv : Inv plan s'
  less : measure plan s' < measure plan s

module _ (plan : Plan) (sound : Sound plan) (s : State) (w : ℕ) (i : Inv plan s) (here : 0 < occurs w s.list) where
  worker-progress : (v : Worker) → OneOn (length (steps_of plan w)) (worker_at s w) v → Progress plan s (worker_moved w v s)
  worker-progress v on =
      record {
        inv = record { core = moved-core plan s w v i.core here on; shut = i.shut };
        less = moved-falls plan s w v i.core here on;
      }

  fence-progress : (worker_at s w).arrived ≡ false → Progress plan s (move plan s w)
  fence-progress a =
      let l : Listed plan s w = listed plan s w i.core here in
      rw (fence-move plan s w a)
      (worker-progress (fenced_at plan s w) (fenced-on plan sound s.memory w (worker_at s w) (i.core.sane w) l.runs_on a l.place))

  -- the holder's rule, and the round closed if that empties the list
  rule-progress : (y : Sync) (rest : List ℕ) → step_at plan w (worker_at s w).place ≡ sync y → s.list ≡ w ∷ rest → (worker_at s w).arrived ≡ true
      → Progress plan s (closed (sync_move plan y w rest s))
  unfolding apply
  rule-progress y rest t e a =
      let c : Core plan s = i.core in
      let r : Ruling = rule_of plan (queue_of s) (fate_in s) (worker_at s w).held y in
      let law : Lawful plan s w r = rule-lawful plan s w y c (listed plan s w c here) t in
      let s' : State = apply y r w rest s in
      record {
        inv = closed-inv plan s' (applied-core plan s y r w rest c e a law) (omega (arith, c.rounded));
        less = rw (closed-measure plan s'.list s') (applied-falls plan s y r w rest c e a law);
      }

  token-progress : (rest : List ℕ) → s.list ≡ w ∷ rest → (worker_at s w).arrived ≡ true → Progress plan s (move plan s w)
  unfolding move
  token-progress rest e a = go (step_at plan w (worker_at s w).place) refl
    where
      go : (t : Step) → step_at plan w (worker_at s w).place ≡ t → Progress plan s (move_by plan t (worker_at s w).arrived w s)
      go (own o) q =
          worker-progress _ (own_on plan sound s.memory o w (worker_at s w) q (i.core.sane w) (listed plan s w i.core here).runs_on)
      go (sync y) q =
          subst⁻¹ (λ (b : Bool). Progress plan s (move_by plan (sync y) b w s)) a
          (subst⁻¹ (λ (ws : List ℕ). Progress plan s (closed (sync_move plan y w (behind ws) s))) e (rule-progress y rest q e a))

progress : (plan : Plan) → Sound plan → (s : State) (w : ℕ) → Inv plan s → can s w ≡ true → Progress plan s (move plan s w)
progress plan sound s w i q = go (can-view s w q)
  where
    here : 0 < occurs w s.list
    here = member-some w s.list (in_list s w (can-view s w q))

    go : Can s w → Progress plan s (move plan s w)
    go (runs_up m a) = fence-progress plan sound s w i here a
    go (holds rest e a all) = token-progress plan sound s w i here rest e a

pub kept : (plan : Plan) → Sound plan → (s : State) (w : ℕ) → Inv plan s → can s w ≡ true → Inv plan (move plan s w)
kept plan sound s w i q = (progress plan sound s w i q).inv

pub falls : (plan : Plan) → Sound plan → (s : State) (w : ℕ) → Inv plan s → can s w ≡ true → measure plan (move plan s w) < measure plan s
falls plan sound s w i q = (progress plan sound s w i q).less

-- two workers that can both move

pub stays : (plan : Plan) (s : State) (v w : ℕ) → Inv plan s → can s v ≡ true → can s w ≡ true → (v ≡ w → ⊥) → can (move plan s v) w ≡ true
stays plan s v w i p q ne =
    let c : Can s v = can-view s v p in
    let d : Can s w = can-view s w q in
    fenced-stays plan s v w (both-fenced s v w c d ne) (both-fenced s w v d c (λ e. ne (sym e))) (in_list s w d) ne

pub commute : (plan : Plan) (s : State) (v w : ℕ) → Inv plan s → can s v ≡ true → can s w ≡ true → (v ≡ w → ⊥)
    → move plan (move plan s v) w ≡ move plan (move plan s w) v
commute plan s v w i p q ne =
    let c : Can s v = can-view s v p in
    let d : Can s w = can-view s w q in
    fenced-commute plan s v w (both-fenced s v w c d ne) (both-fenced s w v d c (λ e. ne (sym e))) ne

-- tally and log

closing-keeps : (ws : List ℕ) (s : State) → ((closing ws s).moves ≡ s.moves) × ((closing ws s).log ≡ s.log)
unfolding new_round
closing-keeps [] s = (refl, refl)
closing-keeps (w ∷ ws) s = (refl, refl)

pub closed-keeps : (s : State) → ((closed s).moves ≡ s.moves) × ((closed s).log ≡ s.log)
closed-keeps s = closing-keeps s.list s

pub counts : (plan : Plan) (s : State) (w : ℕ) → (move plan s w).moves ≡ s.moves + 1
unfolding move apply
counts plan s w = go (step_at plan w (worker_at s w).place) (worker_at s w).arrived
  where
    go : (t : Step) (b : Bool) → (move_by plan t b w s).moves ≡ s.moves + 1
    go (own o) b = refl
    go (sync y) false = refl
    go (sync y) true = (closed-keeps (sync_move plan y w (behind s.list) s)).0

pub grows : (plan : Plan) (s : State) (w : ℕ) → Prefix s.log (move plan s w).log
unfolding move apply
grows plan s w = go (step_at plan w (worker_at s w).place) (worker_at s w).arrived
  where
    go : (t : Step) (b : Bool) → Prefix s.log (move_by plan t b w s).log
    go (own o) b = ([], sym (append-nil s.log))
    go (sync y) false = ([], sym (append-nil s.log))
    go (sync y) true = (_, (closed-keeps (sync_move plan y w (behind s.list) s)).1)

-- the end

pub end-stops : (s : State) (w : ℕ) → ended s ≡ true → can s w ≡ false
unfolding can member
end-stops s w q = rw (nobody s.list q)
  where
    nobody : (ws : List ℕ) → none_left ws ≡ true → member w ws ≡ false
    nobody [] q = refl
    nobody (x ∷ xs) q = clash q

-- all have arrived, or there is one who has not
late : (s : State) (ws : List ℕ) → all_arrived s ws ≡ false → (w : ℕ) × (member w ws ≡ true) × ((worker_at s w).arrived ≡ false)
unfolding all_arrived member
late s [] q = clash (sym q)
late s (w ∷ ws) q = go (worker_at s w).arrived refl q (late s ws)
  where
    go : (b : Bool) → (worker_at s w).arrived ≡ b → (b && all_arrived s ws) ≡ false
        → (all_arrived s ws ≡ false → (v : ℕ) × (member v ws ≡ true) × ((worker_at s v).arrived ≡ false))
        → (v : ℕ) × ((eqb v w || member v ws) ≡ true) × ((worker_at s v).arrived ≡ false)
    go true a q f = ((f q).0, or-holds (eqb (f q).0 w) (f q).1, (f q).2)
    go false a q f = (w, rw (eq-eqb w w refl), a)

someone : (s : State) → ended s ≡ false → (w : ℕ) × (can s w ≡ true)
someone s q = go s.list refl q (all_arrived s s.list) refl
  where
    go : (ws : List ℕ) → s.list ≡ ws → none_left ws ≡ false → (b : Bool) → all_arrived s s.list ≡ b → (w : ℕ) × (can s w ≡ true)
    go [] e q b r = clash (sym q)
    go (w ∷ ws) e q true r = (w, can-hold s w ws e r)
    go (w ∷ ws) e q false r =
        let l : (v : ℕ) × (member v s.list ≡ true) × ((worker_at s v).arrived ≡ false) = late s s.list r in
        (l.0, can-run_up s l.0 l.1 l.2)

pub goes_on : (plan : Plan) (s : State) → Inv plan s → ended s ≡ false → (w : ℕ) × (w < workers_of plan) × (can s w ≡ true)
goes_on plan s i q =
    let c : (w : ℕ) × (can s w ≡ true) = someone s q in
    (c.0, (listed plan s c.0 i.core (member-some c.0 s.list (in_list s c.0 (can-view s c.0 c.1)))).known, c.1)
