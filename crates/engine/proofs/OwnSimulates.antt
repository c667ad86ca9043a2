-- An own step simulates its move: the values behind it show the state after the move.
use Prim.Native.Nat.{ℕ, ◌+◌, ◌<◌}
use native.Mathlib.Decide.{ℕ_discrete}
use native.Mathlib.Omega.{arith}
use mathlib.Core.Bool.{Bool, false}
use mathlib.Core.Path.{◌≡◌, refl, sym, ap, ◌∙◌, subst⁻¹}
use mathlib.Core.List.{List, []}
use lib.ListN.{length, get_or, set, length-set}
use lib.Seq.{get_or-set_same, get_or-set_other}
use Rattle.protocol.specs.Format.{Own, Step, synchronises, plan_of}
use Rattle.protocol.specs.Steps as steps
use Rattle.protocol.specs.Steps.{new_worker, fate_as, own_step}
use Rattle.protocol.specs.Rounds.{State, worker_at, worker_moved, own_move}
use Rattle.protocol.specs.Turns.{workers_of, move_by, move}
use Rattle.protocol.proofs.Fence.{moved_other}
use Rattle.plan.specs.declared.decode.Record.{Record}
use Rattle.pages.specs.Copies.{copies_in}
use Rattle.worker.specs.Private.{viewed, own_of}
use Rattle.worker.specs.declared.Worker.{Worker}
use Rattle.moves.specs.Moves.{fetched_as, OwnMoved}
use Rattle.rules.specs.Codes.{fate_code}
use Rattle.engine.specs.declared.state.Schedule.{Schedule}
use Rattle.engine.specs.Kept.{Kept, kept, private_of}
use Rattle.engine.specs.Refines.{Refines}
use Rattle.engine.specs.Moving.{Able, state_of}
use Rattle.engine.specs.Turning.{moves_as}
use Rattle.engine.proofs.CanMove.{away-same, can-same}
use Rattle.engine.proofs.Parts.{bytes-moved}
use Rattle.engine.proofs.Here.{inv, known, small, own-here}

-- a statement on a worker of every number after one worker's record is replaced
pub each-moved : (s : State) (w : ℕ) (x : steps.Worker) (P : ℕ → steps.Worker → Type 0) → w < length s.workers → P w x
    → ((u : ℕ) → (u ≡ w → ⊥) → P u (worker_at s u)) → (u : ℕ) → P u (worker_at (worker_moved w x s) u)
each-moved s w x P l here there u = go (ℕ_discrete u w)
  where
    go : Dec (u ≡ w) → P u (worker_at (worker_moved w x s) u)
    go (yes e) =
        subst⁻¹ (λ (i : ℕ). P i (worker_at (worker_moved w x s) i)) e (subst⁻¹ (P w) (get_or-set_same s.workers w x new_worker l) here)
    go (no ne) = subst⁻¹ (P u) (moved_other s w u x (λ e. ne (sym e))) (there u ne)

-- what is kept behind an own step of worker w, which leaves it with the record v
abbrev pub own_kept : Kept → ℕ → Worker → (copied : List Bool) (work : List ℕ) → Kept
own_kept k w v copied work =
    kept (set k.places w v.place) k.held (set k.registers w v.registers) k.fates k.can copied k.memory k.log work

module _ {file sizes firsts : List ℕ} {w : ℕ} {t : Schedule} {k : Kept} (a : Able file sizes firsts w t k)
    {r : Record} (e : r ≡ fetched_as file (get_or firsts w 0) (get_or firsts (w + 1) 0) (get_or k.places w 0)) (owns : synchronises r.op ≡ false)
    {v : Worker} {copied : List Bool} {work : List ℕ} (m : OwnMoved (private_of k w) r w k.memory k.copied k.work copied work v) where
  abbrev s : State
  s = state_of a

  abbrev o : Own
  o = own_of r.op r.register r.number

  abbrev x : steps.Worker
  x = own_step s.memory o (worker_at s w)

  abbrev after : State
  after = own_move o w s

  abbrev k' : Kept
  k' = own_kept k w v copied work

  inside : w < length s.workers
  inside = rw (inv a).core.size (known a)

  -- the records
  abbrev counting : ℕ → Worker
  counting h = record { place = v.place; held = h; registers = v.registers }

  mine : private_of k' w ≡ v
  mine =
      rw (get_or-set_same k.places w v.place 0 (omega (arith, small a, a.refines.entries.places)))
      (rw (get_or-set_same k.registers w v.registers [] (omega (arith, small a, a.refines.entries.registers)))
      (ap counting (sym m.held)))

  records : (u : ℕ) → (u ≡ w → ⊥) → private_of k' u ≡ private_of k u
  records u ne = rw (get_or-set_other k.places w u v.place 0 ne, get_or-set_other k.registers w u v.registers [] ne)

  new : x ≡ viewed v (worker_at s w).held (worker_at s w).arrived (copies_in copied work w) (worker_at s w).fate
  new =
      ap (λ (b : List ℕ). own_step b o (worker_at s w)) a.refines.bytes.shared
      ∙ ap (λ (y : steps.Worker). own_step k.memory o y) (a.refines.bytes.worker w (known a))
      ∙ m.worker (worker_at s w).held (worker_at s w).arrived (worker_at s w).fate

  same-arrived : (u : ℕ) → (worker_at after u).arrived ≡ (worker_at s u).arrived
  same-arrived =
      each-moved s w x (λ u y. y.arrived ≡ (worker_at s u).arrived) inside (ap (λ (y : steps.Worker). y.arrived) new) (λ u ne. refl)

  same-fate : (u : ℕ) → (worker_at after u).fate ≡ (worker_at s u).fate
  same-fate = each-moved s w x (λ u y. y.fate ≡ (worker_at s u).fate) inside (ap (λ (y : steps.Worker). y.fate) new) (λ u ne. refl)

  others : (u : ℕ) → (u ≡ w → ⊥) → worker_at after u ≡ fate_as (worker_at after u).fate (worker_at s u)
  others u ne = subst⁻¹ (λ (y : steps.Worker). y ≡ fate_as y.fate (worker_at s u)) (moved_other s w u x (λ q. ne (sym q))) refl

  refined : Refines (workers_of (plan_of file)) after (moves_as t (t.counts.moves + 1)) k'
  refined =
      let shows = a.refines in
      record {
        entries = record {
          places = length-set k.places w v.place ∙ shows.entries.places;
          held = shows.entries.held;
          registers = length-set k.registers w v.registers ∙ shows.entries.registers;
          fates = shows.entries.fates;
          can = shows.entries.can;
        };
        bytes =
            bytes-moved shows.bytes shows.bytes.shared
            (record { memory_length = shows.bytes.sizes.memory_length; work_length = m.size ∙ shows.bytes.sizes.work_length }) m.mark_size
            (get_or-set_same s.workers w x new_worker inside
            ∙ new
            ∙ ap (λ (q : Worker). viewed q (worker_at s w).held (worker_at s w).arrived (copies_in copied work w) (worker_at s w).fate) (sym mine))
            (shows.bytes.locks w (known a)) others records m.others;
        lists = record {
          list = shows.lists.list;
          next = shows.lists.next;
          waiting = shows.lists.waiting;
          away = shows.lists.away ∙ sym (away-same s after same-arrived s.list);
          fates = λ u l. shows.lists.fates u l ∙ sym (ap fate_code (same-fate u));
          able = λ u l. shows.lists.able u l ∙ sym (can-same s after same-arrived refl u);
        };
        log = record { count = shows.log.count; bytes = shows.log.bytes; size = shows.log.size };
        moves = ap (λ (i : ℕ). i + 1) shows.moves;
        rounds = shows.rounds;
        sum = shows.sum;
      }

  pub own-simulates : Refines (workers_of (plan_of file)) (move (plan_of file) s w) (moves_as t (t.counts.moves + 1)) k'
  unfolding move
  own-simulates =
      subst⁻¹ (λ (q : Step). Refines (workers_of (plan_of file)) (move_by (plan_of file) q (worker_at s w).arrived w s) (moves_as t (t.counts.moves + 1)) k')
      (own-here a e owns) refined
