-- An arrival at the fence simulates its move: the values behind it show the state after the move.
use Prim.Native.Nat.{ℕ, ◌+◌, ◌-◌, ◌<◌, ◌≤◌}
use native.Mathlib.Decide.{ℕ_discrete}
use native.Mathlib.Omega.{arith}
use mathlib.Core.Bool.{Bool, true, false, cond, not, ◌&&◌}
use mathlib.Core.Path.{◌≡◌, refl, sym, ap, ◌∙◌, subst⁻¹}
use mathlib.Core.List.{List, [], ◌∷◌}
use lib.Dec.{eqb}
use lib.ListN.{length, get_or, set, length-set}
use lib.Seq.{get_or-set_same}
use borrow.Author.Tests.{eq-eqb, ne_eqb}
use Rattle.protocol.specs.Format.{workers_limit, sync, Sync, Step, plan_of}
use Rattle.protocol.specs.Steps as steps
use Rattle.protocol.specs.Steps.{new_worker, fate_as, arrived_as, step_at}
use Rattle.protocol.specs.Rounds.{State, worker_at, arrival, member}
use Rattle.protocol.specs.Turns.{workers_of, all_arrived, can, move_by, move, none_left}
use Rattle.protocol.specs.Sum.{no_change, change_by, move_change}
use Rattle.protocol.specs.Demands.{occurs}
use Rattle.protocol.proofs.Bools.{and-fails}
use Rattle.protocol.proofs.Counting.{clash}
use Rattle.protocol.proofs.Fence.{Can, runs_up, holds, can-view, in_list, all-arrived, moved_other}
use Rattle.rules.specs.Codes.{fate_code}
use Rattle.token.specs.Token.{arrived_can}
use Rattle.engine.specs.declared.state.Schedule.{Schedule}
use Rattle.engine.specs.Kept.{Kept, kept}
use Rattle.engine.specs.Refines.{away_in, Refines}
use Rattle.engine.specs.Moving.{Able, state_of, AfterMove}
use Rattle.engine.proofs.CanMove.{cond-false, all-away, none-away, can-token, can-late, mark_set}
use Rattle.engine.proofs.Parts.{bytes-moved, first-eqb}
use Rattle.engine.proofs.Here.{inv, listed_here, known}
use Rattle.engine.proofs.OwnSimulates.{each-moved}

-- one who had not arrived has: so many fewer are away
module _ (s s' : State) (w : ℕ) (late : (worker_at s w).arrived ≡ false) (here : (worker_at s' w).arrived ≡ true)
    (there : (u : ℕ) → (u ≡ w → ⊥) → (worker_at s' u).arrived ≡ (worker_at s u).arrived) where
  away-less : (ws : List ℕ) → away_in s ws ≡ away_in s' ws + occurs w ws
  unfolding away_in occurs
  away-less [] = refl
  away-less (v ∷ vs) = go (ℕ_discrete v w) (away-less vs)
    where
      go : Dec (v ≡ w) → away_in s vs ≡ away_in s' vs + occurs w vs
          → cond (worker_at s v).arrived 0 1 + away_in s vs ≡ cond (worker_at s' v).arrived 0 1 + away_in s' vs + (cond (eqb w v) 1 0 + occurs w vs)
      go (yes e) h = rw (e, late, here, eq-eqb w w refl) (omega arith)
      go (no ne) h = rw (there v ne, ne_eqb w v (λ e. ne (sym e))) (omega arith)

member-left : (w : ℕ) (ws : List ℕ) → member w ws ≡ true → none_left ws ≡ false
unfolding member
member-left w [] m = clash m
member-left w (v ∷ vs) m = refl

-- the schedule and the marks behind an arrival
abbrev pub arrived_schedule : Schedule → ℕ → Schedule
arrived_schedule t away =
    record {
      lists = t.lists;
      away = away;
      counts = record { moves = t.counts.moves + 1; rounds = t.counts.rounds; records = t.counts.records };
      sum = t.sum;
    }

abbrev pub marked_as : Kept → List Bool → Kept
marked_as k can = kept k.places k.held k.registers k.fates can k.copied k.memory k.log k.work

module _ {file sizes firsts : List ℕ} {w : ℕ} {t : Schedule} {k : Kept} (a : Able file sizes firsts w t k)
    {y : Sync} (step : step_at (plan_of file) w (worker_at (state_of a) w).place ≡ sync y) (some : 1 ≤ t.away) where
  abbrev s : State
  s = state_of a

  abbrev after : State
  after = arrival w s

  abbrev marks : List Bool
  marks = arrived_can (get_or s.list 0 0) t.away w k.can

  in-round : member w s.list ≡ true
  in-round = in_list s w (can-view s w a.able)

  inside : w < length s.workers
  inside = rw (inv a).core.size (known a)

  late : (worker_at s w).arrived ≡ false
  late = go (can-view s w a.able)
    where
      go : Can s w → (worker_at s w).arrived ≡ false
      go (runs_up m e) = e
      go (holds rest e q all) = absurd (omega (arith, none-away s s.list all, a.refines.lists.away))

  at-w : worker_at after w ≡ arrived_as true (worker_at s w)
  at-w = get_or-set_same s.workers w (arrived_as true (worker_at s w)) new_worker inside

  at_other : (u : ℕ) → (u ≡ w → ⊥) → worker_at after u ≡ worker_at s u
  at_other u ne = moved_other s w u (arrived_as true (worker_at s w)) (λ e. ne (sym e))

  here : (worker_at after w).arrived ≡ true
  here = ap (λ (v : steps.Worker). v.arrived) at-w

  there : (u : ℕ) → (u ≡ w → ⊥) → (worker_at after u).arrived ≡ (worker_at s u).arrived
  there u ne = ap (λ (v : steps.Worker). v.arrived) (at_other u ne)

  away : t.away - 1 ≡ away_in after s.list
  away = omega (arith, a.refines.lists.away, away-less s after w late here there s.list, (listed_here a).once)

  before : (u : ℕ) → can s u ≡ member u s.list && not (worker_at s u).arrived
  before u = can-late s u (all-away s s.list ∙ ne_eqb (away_in s s.list) 0 (λ e. omega (arith, a.refines.lists.away)))

  -- the marks, with the worker's own taken down
  lowered : (u : ℕ) → u < workers_limit → get_or (set k.can w false) u false ≡ cond (eqb u w) false (can s u)
  lowered u l =
      mark_set k.can w u false (rw a.refines.entries.can l)
      ∙ ap (λ (b : Bool). cond (eqb u w) false b) (a.refines.lists.able u l)

  still-away : (u : ℕ) → cond (eqb u w) false (can s u) ≡ member u s.list && not (worker_at after u).arrived
  still-away u = go (ℕ_discrete u w)
    where
      go : Dec (u ≡ w) → cond (eqb u w) false (can s u) ≡ member u s.list && not (worker_at after u).arrived
      go (yes e) =
          ap (λ (b : Bool). cond b false (can s u)) (eq-eqb u w e)
          ∙ sym (and-fails (member u s.list) (ap not (ap (λ (i : ℕ). (worker_at after i).arrived) e ∙ here)))
      go (no ne) =
          ap (λ (b : Bool). cond b false (can s u)) (ne_eqb u w ne)
          ∙ before u
          ∙ ap (λ (b : Bool). member u s.list && not b) (sym (there u ne))

  -- the last one has arrived
  nobody-away : all_arrived after s.list ≡ true → (u : ℕ) → (member u s.list && not (worker_at after u).arrived) ≡ false
  nobody-away all u = go (member u s.list) refl
    where
      go : (m : Bool) → member u s.list ≡ m → (m && not (worker_at after u).arrived) ≡ false
      go false e = refl
      go true e = ap not (all-arrived after u s.list all e)

  able-after : (u : ℕ) → u < workers_limit → get_or marks u false ≡ can after u
  able-after u l = go (eqb (t.away - 1) 0) refl
    where
      all : all_arrived after s.list ≡ eqb (t.away - 1) 0
      all = all-away after s.list ∙ ap (λ (i : ℕ). eqb i 0) (sym away)

      go : (b : Bool) → eqb (t.away - 1) 0 ≡ b
          → get_or (cond b (set (set k.can w false) (get_or s.list 0 0) true) (set k.can w false)) u false ≡ can after u
      go true e =
          mark_set (set k.can w false) (get_or s.list 0 0) u true (rw (length-set, a.refines.entries.can) l)
          ∙ cond-false (eqb u (get_or s.list 0 0)) (lowered u l ∙ still-away u ∙ nobody-away (all ∙ e) u)
          ∙ sym (first-eqb u s.list (member-left w s.list in-round))
          ∙ sym (can-token after u (all ∙ e))
      go false e = lowered u l ∙ still-away u ∙ sym (can-late after u (all ∙ e))

  marked : length marks ≡ workers_limit
  marked = go (eqb (t.away - 1) 0)
    where
      go : (b : Bool) → length (cond b (set (set k.can w false) (get_or s.list 0 0) true) (set k.can w false)) ≡ workers_limit
      go true = simp length-set a.refines.entries.can
      go false = simp length-set a.refines.entries.can

  same-fate : (u : ℕ) → (worker_at after u).fate ≡ (worker_at s u).fate
  same-fate = each-moved s w (arrived_as true (worker_at s w)) (λ u v. v.fate ≡ (worker_at s u).fate) inside refl (λ u ne. refl)

  others : (u : ℕ) → (u ≡ w → ⊥) → worker_at after u ≡ fate_as (worker_at after u).fate (worker_at s u)
  others u ne = subst⁻¹ (λ (v : steps.Worker). v ≡ fate_as v.fate (worker_at s u)) (at_other u ne) refl

  refined : Refines (workers_of (plan_of file)) after (arrived_schedule t (t.away - 1)) (marked_as k marks)
  refined =
      let shows = a.refines in
      record {
        entries =
            record {
              places = shows.entries.places;
              held = shows.entries.held;
              registers = shows.entries.registers;
              fates = shows.entries.fates;
              can = marked;
            };
        bytes =
            bytes-moved shows.bytes shows.bytes.shared shows.bytes.sizes shows.bytes.marks
            (at-w ∙ ap (λ (v : steps.Worker). arrived_as true v) (shows.bytes.worker w (known a))) (shows.bytes.locks w (known a)) others (λ u ne. refl) (λ u ne. refl);
        lists = record {
          list = shows.lists.list;
          next = shows.lists.next;
          waiting = shows.lists.waiting;
          away = away;
          fates = λ u l. shows.lists.fates u l ∙ sym (ap fate_code (same-fate u));
          able = able-after;
        };
        log = record { count = shows.log.count; bytes = shows.log.bytes; size = shows.log.size };
        moves = ap (λ (i : ℕ). i + 1) shows.moves;
        rounds = shows.rounds;
        sum = shows.sum;
      }

  -- nothing is committed
  change_none : move_change (plan_of file) s w ≡ no_change
  unfolding move_change
  change_none = ap (λ (q : Step). change_by (plan_of file) q (worker_at s w).arrived w s) step ∙ ap (λ (b : Bool). change_by (plan_of file) (sync y) b w s) late

  simulated : {away' : ℕ} {can' : List Bool} → away' ≡ t.away - 1 → can' ≡ arrived_can (get_or t.lists.list 0 0) t.away w k.can
      → Refines (workers_of (plan_of file)) (move (plan_of file) s w) (arrived_schedule t away') (marked_as k can')
  unfolding move
  simulated {away'} {can'} same marks' =
      subst⁻¹ (λ (i : ℕ). Shown i can') same
      (subst⁻¹ (λ (bs : List Bool). Shown (t.away - 1) bs) (marks' ∙ ap (λ (ws : List ℕ). arrived_can (get_or ws 0 0) t.away w k.can) a.refines.lists.list)
      (subst⁻¹ (λ (q : State). Refines (workers_of (plan_of file)) q (arrived_schedule t (t.away - 1)) (marked_as k marks))
      (ap (λ (q : Step). move_by (plan_of file) q (worker_at s w).arrived w s) step ∙ ap (λ (b : Bool). move_by (plan_of file) (sync y) b w s) late)
      refined))
    where
      Shown : ℕ → List Bool → Type 0
      Shown i bs = Refines (workers_of (plan_of file)) (move (plan_of file) s w) (arrived_schedule t i) (marked_as k bs)

  pub arrive-simulates : {away' : ℕ} {can' : List Bool} → away' ≡ t.away - 1 → can' ≡ arrived_can (get_or t.lists.list 0 0) t.away w k.can
      → AfterMove (plan_of file) s w t (arrived_schedule t away') (marked_as k can')
  arrive-simulates same marks' = record { refines = simulated same marks'; moved = rw change_none (omega arith) }
