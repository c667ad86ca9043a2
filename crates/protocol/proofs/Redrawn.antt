-- A state with its memory, and the locks and copies of each worker, drawn anew: who can move, the queues, what a move does and what the report
-- shows are as they were. It is what Five (`Naming`) and Seven (`Unnamed`) say of two runs side by side, and stands here once.
-- Assumes nothing.
use Prim.Native.Nat.{ℕ, zero, suc}
use mathlib.Core.Bool.{Bool, true, false}
use mathlib.Core.Path.{◌≡◌, refl, sym, ap, ◌∙◌, fun_ext}
use mathlib.Core.List.{List, [], ◌∷◌, ◌++◌, map}
use lib.ListN.{get_or, set, length-map, get_or-map}
use Rattle.protocol.specs.Format.{Own, Sync, Step, own, sync, Discipline, Plan, up_to}
use Rattle.protocol.specs.Pages.{Copies, no_copies, commit}
use Rattle.protocol.specs.Steps.{QueueName, Fate, going, Worker, worker_of, new_worker, fate_as, arrived_as, own_step, step_at}
use Rattle.protocol.specs.Rounds.{State, worker_at, queue_of, keep, waits_on, fate_in, Uncommitted, kept, committed, lost, Ruling, ruling, rule_of}
use Rattle.protocol.specs.Rounds.{memory_after, copies_after, after_ruling, freed, own_move, arrival, apply, sync_move, new_round}
use Rattle.protocol.specs.Turns.{workers_of, start, first_worker, all_arrived, can, behind, closing, closed, move_by, move}
use Rattle.protocol.specs.Report.{all_final, end_of, fate_byte, report_bytes}

pub record Redrawing : Type 0 where
  pub memory : List ℕ → List ℕ
  pub held : List ℕ → List ℕ
  pub copies : Copies → Copies
  pub none_held : held [] ≡ []
  pub none_copied : copies no_copies ≡ no_copies

abbrev pub drawn : Redrawing → Worker → Worker
drawn d v = worker_of v.place v.registers (d.held v.held) v.arrived (d.copies v.copies) v.fate

abbrev pub drawn_ruling : Redrawing → Ruling → Ruling
drawn_ruling d r = ruling r.bytes (d.held r.held) r.goes r.wakes r.joins r.outcome

-- the state with a memory and workers in the place of its own
abbrev pub state_as : List ℕ → List Worker → State → State
state_as memory workers s =
    record {
      memory = memory;
      workers = workers;
      list = s.list;
      next = s.next;
      waiting = s.waiting;
      log = s.log;
      moves = s.moves;
      rounds = s.rounds;
    }

-- the plan with its locks by this discipline: by its own it is the plan itself
abbrev pub plan_by : Discipline → Plan → Plan
plan_by l plan = record { steps = plan.steps; sizes = plan.sizes; sleepers = plan.sleepers; locks = l }

abbrev pub redrawn : Redrawing → State → State
redrawn d s = state_as (d.memory s.memory) (map (drawn d) s.workers) s

module _ (d : Redrawing) where
  -- the workers, one by one

  drawn-new : drawn d new_worker ≡ new_worker
  unfolding new_worker
  drawn-new = rw (d.none_held, d.none_copied)

  drawn-at : (vs : List Worker) (w : ℕ) → get_or (map (drawn d) vs) w new_worker ≡ drawn d (get_or vs w new_worker)
  drawn-at vs w = ap (λ (v : Worker). get_or (map (drawn d) vs) w v) (sym drawn-new) ∙ get_or-map (drawn d) vs w new_worker

  drawn-set : (vs : List Worker) (w : ℕ) (v : Worker) → set (map (drawn d) vs) w (drawn d v) ≡ map (drawn d) (set vs w v)
  drawn-set [] w v = refl
  drawn-set (u ∷ us) zero v = refl
  drawn-set (u ∷ us) (suc w) v = ap (λ (xs : List Worker). drawn d u ∷ xs) (drawn-set us w v)

  drawn-freed : (out : List ℕ) (vs : List Worker) → freed out (map (drawn d) vs) ≡ map (drawn d) (freed out vs)
  unfolding freed
  drawn-freed [] vs = refl
  drawn-freed (o ∷ os) vs =
      ap (λ (v : Worker). freed os (set (map (drawn d) vs) o (fate_as going v))) (drawn-at vs o)
      ∙ ap (freed os) (drawn-set vs o (fate_as going (get_or vs o new_worker)))
      ∙ drawn-freed os (set vs o (fate_as going (get_or vs o new_worker)))

  drawn-first : (plan : Plan) (ws : List ℕ) → map (first_worker plan) ws ≡ map (drawn d) (map (first_worker plan) ws)
  drawn-first plan [] = refl
  drawn-first plan (w ∷ ws) =
      ap (λ (v : Worker). fate_as (first_worker plan w).fate v ∷ map (first_worker plan) ws) (sym drawn-new)
      ∙ ap (λ (vs : List Worker). drawn d (first_worker plan w) ∷ vs) (drawn-first plan ws)

  -- who can move, and the queues

  drawn-worker : (s : State) (w : ℕ) → worker_at (redrawn d s) w ≡ drawn d (worker_at s w)
  drawn-worker s w = drawn-at s.workers w

  same-arrivals : (s : State) (ws : List ℕ) → all_arrived (redrawn d s) ws ≡ all_arrived s ws
  unfolding all_arrived
  same-arrivals s [] = refl
  same-arrivals s (w ∷ ws) = rw (drawn-worker s w, same-arrivals s ws)

  pub same-can : (s : State) (w : ℕ) → can (redrawn d s) w ≡ can s w
  unfolding can
  same-can s w = rw (drawn-worker s w, same-arrivals s s.list)

  same-fates : (s : State) → fate_in (redrawn d s) ≡ fate_in s
  same-fates s = fun_ext (λ w. ap (λ (v : Worker). v.fate) (drawn-worker s w))

  same-queues : (s : State) → queue_of (redrawn d s) ≡ queue_of s
  unfolding queue_of
  same-queues s = fun_ext (λ q. ap (λ (fates : ℕ → Fate). keep (λ w. waits_on q (fates w)) s.waiting) (same-fates s))

  -- a ruling

  settled-copies : (b : Uncommitted) (copies : Copies) → copies_after b (d.copies copies) ≡ d.copies (copies_after b copies)
  settled-copies kept copies = refl
  settled-copies committed copies = sym d.none_copied
  settled-copies lost copies = sym d.none_copied

  abbrev CommitsAlike : Copies → List ℕ → Type 0
  CommitsAlike copies memory = commit (d.copies copies) (d.memory memory) ≡ d.memory (commit copies memory)

  settled-memory : (b : Uncommitted) (copies : Copies) (memory : List ℕ) → CommitsAlike copies memory
      → memory_after b (d.copies copies) (d.memory memory) ≡ d.memory (memory_after b copies memory)
  settled-memory kept copies memory alike = refl
  settled-memory committed copies memory alike = alike
  settled-memory lost copies memory alike = refl

  apply-redrawn : (y : Sync) (r : Ruling) (h : ℕ) (rest : List ℕ) (s : State) → CommitsAlike (worker_at s h).copies s.memory
      → apply y (drawn_ruling d r) h rest (redrawn d s) ≡ redrawn d (apply y r h rest s)
  unfolding apply
  apply-redrawn y r h rest s alike =
      let v = worker_at s h in
      let others = freed (r.wakes ++ r.joins) s.workers in
      rw (
        drawn-worker s h,
        settled-memory r.bytes v.copies s.memory alike,
        settled-copies r.bytes v.copies,
        drawn-freed (r.wakes ++ r.joins) s.workers,
        drawn-set others h (after_ruling r v),
      )

  closing-redrawn : (ws : List ℕ) (s : State) → closing ws (redrawn d s) ≡ redrawn d (closing ws s)
  unfolding new_round
  closing-redrawn [] s = refl
  closing-redrawn (w ∷ ws) s = refl

  -- a move, by the plan with its locks as they are or by another discipline

  abbrev RuledAlike : Plan → Discipline → State → ℕ → Sync → Type 0
  RuledAlike plan l s h y =
      rule_of (plan_by l plan) (queue_of s) (fate_in s) (d.held (worker_at s h).held) y
      ≡ drawn_ruling d (rule_of plan (queue_of s) (fate_in s) (worker_at s h).held y)

  sync-redrawn : (plan : Plan) (l : Discipline) (y : Sync) (h : ℕ) (rest : List ℕ) (s : State) → RuledAlike plan l s h y → CommitsAlike (worker_at s h).copies s.memory
      → closed (sync_move (plan_by l plan) y h rest (redrawn d s)) ≡ redrawn d (closed (sync_move plan y h rest s))
  sync-redrawn plan l y h rest s rule alike =
      ap closed
      (ap (λ (v : Worker). apply y (rule_of (plan_by l plan) (queue_of (redrawn d s)) (fate_in (redrawn d s)) v.held y) h rest (redrawn d s)) (drawn-worker s h)
      ∙ ap (λ (queue : QueueName → List ℕ). apply y (rule_of (plan_by l plan) queue (fate_in (redrawn d s)) (d.held (worker_at s h).held) y) h rest (redrawn d s)) (same-queues s)
      ∙ ap (λ (fates : ℕ → Fate). apply y (rule_of (plan_by l plan) (queue_of s) fates (d.held (worker_at s h).held) y) h rest (redrawn d s)) (same-fates s)
      ∙ ap (λ (r : Ruling). apply y r h rest (redrawn d s)) rule
      ∙ apply-redrawn y (rule_of plan (queue_of s) (fate_in s) (worker_at s h).held y) h rest s alike)
      ∙ closing-redrawn (sync_move plan y h rest s).list (sync_move plan y h rest s)

  abbrev OwnAlike : State → ℕ → Own → Type 0
  OwnAlike s w o = own_step (d.memory s.memory) o (drawn d (worker_at s w)) ≡ drawn d (own_step s.memory o (worker_at s w))

  own-redrawn : (o : Own) (w : ℕ) (s : State) → OwnAlike s w o → own_move o w (redrawn d s) ≡ redrawn d (own_move o w s)
  own-redrawn o w s alike = rw (drawn-worker s w, alike, drawn-set s.workers w (own_step s.memory o (worker_at s w)))

  arrival-redrawn : (w : ℕ) (s : State) → arrival w (redrawn d s) ≡ redrawn d (arrival w s)
  arrival-redrawn w s = rw (drawn-worker s w, drawn-set s.workers w (arrived_as true (worker_at s w)))

  pub move-redrawn : (plan : Plan) (l : Discipline) (s : State) (w : ℕ)
      → ((o : Own) → step_at plan w (worker_at s w).place ≡ own o → OwnAlike s w o)
      → ((y : Sync) → step_at plan w (worker_at s w).place ≡ sync y → (worker_at s w).arrived ≡ true → RuledAlike plan l s w y)
      → CommitsAlike (worker_at s w).copies s.memory → move (plan_by l plan) (redrawn d s) w ≡ redrawn d (move plan s w)
  unfolding move
  move-redrawn plan l s w owns rules alike =
      ap (λ (v : Worker). move_by (plan_by l plan) (step_at plan w v.place) v.arrived w (redrawn d s)) (drawn-worker s w)
      ∙ go (step_at plan w (worker_at s w).place) (worker_at s w).arrived owns rules
    where
      go : (t : Step) (b : Bool) → ((o : Own) → t ≡ own o → OwnAlike s w o) → ((y : Sync) → t ≡ sync y → b ≡ true → RuledAlike plan l s w y)
          → move_by (plan_by l plan) t b w (redrawn d s) ≡ redrawn d (move_by plan t b w s)
      go (own o) b owns rules = own-redrawn o w s (owns o refl)
      go (sync y) false owns rules = arrival-redrawn w s
      go (sync y) true owns rules = sync-redrawn plan l y w (behind s.list) s (rules y refl refl) alike

  pub start-redrawn : (plan : Plan) (l : Discipline) (memory : List ℕ) → start (plan_by l plan) (d.memory memory) ≡ redrawn d (start plan memory)
  unfolding start
  start-redrawn plan l memory =
      ap (λ (vs : List Worker). state_as (d.memory memory) vs (start plan memory)) (drawn-first plan (up_to (workers_of plan)))

  -- the report shows nothing of it but the memory

  same-final : (vs : List Worker) → all_final (map (drawn d) vs) ≡ all_final vs
  unfolding all_final
  same-final [] = refl
  same-final (v ∷ vs) = rw (same-final vs)

  same-fate-byte : (s : State) → fate_byte (redrawn d s) ≡ fate_byte (state_as (d.memory s.memory) s.workers s)
  unfolding fate_byte
  same-fate-byte s = fun_ext (λ w. rw (length-map s.workers, drawn-worker s w))

  pub same-report : (s : State) → report_bytes (redrawn d s) ≡ report_bytes (state_as (d.memory s.memory) s.workers s)
  unfolding report_bytes end_of
  same-report s = rw (same-final s.workers, length-map s.workers, same-fate-byte s)
