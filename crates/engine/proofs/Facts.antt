-- What a state that the values show says of them, within a sound plan.
use Prim.Native.Nat.{ℕ, ◌+◌, ◌<◌, ◌≤◌}
use native.Mathlib.Decide.{dec_lt}
use native.Mathlib.Omega.{arith}
use mathlib.Core.Bool.{Bool, true, false, cond}
use mathlib.Core.Path.{◌≡◌, refl, sym, ap, ◌∙◌, subst⁻¹}
use mathlib.Core.List.{List, ◌∷◌}
use lib.Dec.{eqb}
use lib.ListN.{length, get_or}
use borrow.Author.Tests.{eq-eqb, eqb-true}
use Rattle.protocol.specs.Ops.{op_start}
use Rattle.protocol.specs.Format.{workers_limit, Step, sync, Sync, Plan}
use Rattle.protocol.specs.Steps.{QueueName, waiting, step_at}
use Rattle.protocol.specs.Rounds.{State, worker_at, queue_of, fate_in, is_asleep, Ruling, rule_of, apply, sync_move, member}
use Rattle.protocol.specs.Turns.{workers_of, all_arrived, can, behind, closed, move_by, move}
use Rattle.protocol.specs.Demands.{occurs}
use Rattle.protocol.proofs.Sound.{Sound}
use Rattle.protocol.proofs.Invariant.{Core, Inv}
use Rattle.protocol.proofs.Counting.{clash, member-some, occurs-same}
use Rattle.protocol.proofs.Fence.{Can, runs_up, holds, can-view, all-arrived}
use Rattle.protocol.proofs.OwnMoves.{one-fate, Listed, listed}
use Rattle.protocol.proofs.Rulings.{Lawful, applied-core, applied-arrived}
use Rattle.protocol.proofs.Rules.{sleeper, waiter-awake, rule-lawful}
use Rattle.protocol.proofs.Bounds.{bounded, placed-none, spare-bound}
use Rattle.queue.specs.List.{Below}
use Rattle.rules.specs.Codes.{fate_code}
use Rattle.format.specs.Fates.{code_asleep}
use Rattle.rules.specs.Rules.{found, sleepers_at, called_by}
use Rattle.rules.proofs.Codes.{code-asleep}
use Rattle.rules.proofs.Found.{queue-coded}
use Rattle.engine.specs.Kept.{Kept}
use Rattle.engine.specs.Refines.{away_in, Refines}
use Rattle.engine.specs.declared.state.Schedule.{Schedule}
use Rattle.engine.proofs.CanMove.{all-away}

-- who holds the token
pub record Holder (s : State) (w : ℕ) : Type 0 where
  pub rest : List ℕ
  pub list : s.list ≡ w ∷ rest
  pub arrived : (worker_at s w).arrived ≡ true
  pub all : all_arrived s s.list ≡ true

-- nobody is away: whoever can move holds the token
pub holder : (s : State) (w : ℕ) → can s w ≡ true → away_in s s.list ≡ 0 → Holder s w
holder s w able near = go (can-view s w able)
  where
    all : all_arrived s s.list ≡ true
    all = all-away s s.list ∙ eq-eqb (away_in s s.list) 0 near

    go : Can s w → Holder s w
    go (runs_up m a) = clash (sym a ∙ all-arrived s w s.list all m)
    go (holds rest e a all') = record { rest = rest; list = e; arrived = a; all = all }

-- the holder's step, by its rule
abbrev pub rule_at : Plan → State → ℕ → Sync → Ruling
rule_at plan s w y = rule_of plan (queue_of s) (fate_in s) (worker_at s w).held y

abbrev pub applied : Plan → State → ℕ → Sync → List ℕ → State
applied plan s w y rest = apply y (rule_at plan s w y) w rest s

module _ (plan : Plan) (s : State) (c : Core plan s) (w : ℕ) (y : Sync) (h : Holder s w) (step : step_at plan w (worker_at s w).place ≡ sync y) where
  pub hold-listed : Listed plan s w
  hold-listed = listed plan s w c (subst⁻¹ (λ (ws : List ℕ). 0 < occurs w ws) h.list (omega (arith, occurs-same w h.rest)))

  pub hold_lawful : Lawful plan s w (rule_at plan s w y)
  hold_lawful = rule-lawful plan s w y c hold-listed step

  pub hold-core : Core plan (applied plan s w y h.rest)
  hold-core = applied-core plan s y (rule_at plan s w y) w h.rest c h.list h.arrived hold_lawful

  pub hold-arrived : all_arrived (applied plan s w y h.rest) (applied plan s w y h.rest).list ≡ true
  hold-arrived = applied-arrived plan s y (rule_at plan s w y) w h.rest c h.list h.arrived hold_lawful h.all

  pub hold-move : move plan s w ≡ closed (applied plan s w y h.rest)
  unfolding move
  hold-move =
      ap (λ (x : Step). move_by plan x (worker_at s w).arrived w s) step
      ∙ ap (λ (b : Bool). move_by plan (sync y) b w s) h.arrived
      ∙ ap (λ (ws : List ℕ). closed (sync_move plan y w (behind ws) s)) h.list

-- nobody else stands in a list
module _ (plan : Plan) (s : State) (c : Core plan s) where
  known_in : (w : ℕ) → 0 < occurs w s.list + occurs w s.next + occurs w s.waiting → w < workers_of plan
  known_in w l = go (dec_lt w (workers_of plan))
    where
      go : Dec (w < workers_of plan) → w < workers_of plan
      go (yes k) = k
      go (no nk) = absurd (omega (arith, placed-none plan s w c (omega arith)))

  pub list-known : Below (workers_of plan) s.list
  list-known w m = known_in w (omega (arith, member-some w s.list m))

  pub next_known : Below (workers_of plan) s.next
  next_known w m = known_in w (omega (arith, member-some w s.next m))

  pub waiting-known : Below (workers_of plan) s.waiting
  waiting-known w m = known_in w (omega (arith, member-some w s.waiting m))

-- What the values show, in a sound plan and a state that obeys the invariant.
module _ {plan : Plan} {s : State} {t : Schedule} {k : Kept} (sound : Sound plan) (i : Inv plan s) (shows : Refines (workers_of plan) s t k) where
  below : (ws ws' : List ℕ) → ws' ≡ ws → Below (workers_of plan) ws → Below workers_limit ws'
  below ws ws' e b w m = omega (arith, b w (ap (λ (us : List ℕ). member w us) (sym e) ∙ m), sound.workers)

  pub list-below : Below workers_limit t.lists.list
  list-below = below s.list _ shows.lists.list (list-known plan s i.core)

  pub waiting-below : Below workers_limit t.lists.waiting
  waiting-below = below s.waiting _ shows.lists.waiting (waiting-known plan s i.core)

  pub lists-fit : length t.lists.list + length t.lists.next + length t.lists.waiting ≤ workers_limit
  lists-fit =
      omega (
        arith,
        ap length shows.lists.list,
        ap length shows.lists.next,
        ap length shows.lists.waiting,
        (bounded plan s sound i).lists,
        sound.workers,
      )

  -- whether one of the workers sleeps, by the code
  asleep-by : (v : ℕ) → v < workers_of plan → eqb (get_or k.fates v 0) code_asleep ≡ is_asleep (fate_in s v)
  asleep-by v h = ap (λ (c : ℕ). eqb c code_asleep) (shows.lists.fates v h) ∙ code-asleep (fate_in s v)

  -- nobody who waits sleeps
  pub waiting-awake : (w : ℕ) → member w t.lists.waiting ≡ true → eqb (get_or k.fates w 0) code_asleep ≡ false
  waiting-awake w m =
      let here : member w s.waiting ≡ true = ap (λ (ws : List ℕ). member w ws) (sym shows.lists.waiting) ∙ m in
      asleep-by w (waiting-known plan s i.core w here)
      ∙ waiter-awake (fate_in s w) (omega (arith, (i.core.stands w).queued, member-some w s.waiting here))

  -- whoever waits does so once
  pub waiting-once : (w : ℕ) → occurs w t.lists.waiting ≤ 1
  waiting-once w =
      omega (arith, ap (λ (ws : List ℕ). occurs w ws) shows.lists.waiting, (i.core.stands w).queued, one-fate (worker_at s w).fate)

  -- there is room for a sleeper
  pub lists-spare : (op number : ℕ) → (op ≡ op_start → number < workers_of plan)
      → length t.lists.list + length t.lists.next + length t.lists.waiting + called_by op number k.fates ≤ workers_limit
  lists-spare op number target = go (eqb op op_start) refl
    where
      lists : ℕ
      lists = length t.lists.list + length t.lists.next + length t.lists.waiting

      spare : number < workers_of plan → eqb (get_or k.fates number 0) code_asleep ≡ true → lists < workers_limit
      spare h e =
          omega (
            arith,
            ap length shows.lists.list,
            ap length shows.lists.next,
            ap length shows.lists.waiting,
            spare-bound plan s number i.core h (sleeper (fate_in s number) (sym (asleep-by number h) ∙ e)).resting,
            sound.workers,
          )

      within : number < workers_of plan → (b : Bool) → eqb (get_or k.fates number 0) code_asleep ≡ b → lists + cond b 1 0 ≤ workers_limit
      within h true e = omega (arith, spare h e)
      within h false e = omega (arith, lists-fit)

      go : (b : Bool) → eqb op op_start ≡ b → lists + cond b (sleepers_at k.fates number) 0 ≤ workers_limit
      go true e = within (target (eqb-true op op_start e)) (eqb (get_or k.fates number 0) code_asleep) refl
      go false e = omega (arith, lists-fit)

  pub moves-fit : t.counts.moves ≤ 2064
  moves-fit = omega (arith, shows.moves, (bounded plan s sound i).moves_fit)

  pub rounds-fit : t.counts.rounds ≤ 2064
  rounds-fit = omega (arith, shows.rounds, (bounded plan s sound i).rounds, (bounded plan s sound i).moves_fit)

  -- the queue of a condition or a barrier, by the codes
  pub queue-listed : (q : QueueName) → found k.fates t.lists.waiting (fate_code (waiting q)) ≡ queue_of s q
  queue-listed q =
      ap (λ (ws : List ℕ). found k.fates ws (fate_code (waiting q))) shows.lists.waiting
      ∙ queue-coded s k.fates q (λ u m. shows.lists.fates u (waiting-known plan s i.core u m))
