-- The holder's step simulates its move: from what its parts leave, the values show the state after the move.
use Prim.Native.Nat.{ℕ, ◌+◌, ◌*◌, ◌<◌}
use native.Mathlib.Decide.{ℕ_discrete}
use native.Mathlib.Omega.{arith}
use mathlib.Core.Bool.{Bool, true, false, cond}
use mathlib.Core.Path.{◌≡◌, refl, sym, ap, ◌∙◌, subst⁻¹}
use mathlib.Core.List.{List, [], ◌∷◌, ◌++◌}
use lib.Dec.{eqb}
use lib.ListN.{length, get_or, set, take, drop, length-append, length-set}
use lib.Seq.{get_or-set_same, get_or-set_other}
use borrow.Author.Tests.{eq-eqb, ne_eqb}
use Rattle.protocol.specs.Format.{workers_limit, Step, sync, Sync, plan_of}
use Rattle.protocol.specs.Pages.{Copies}
use Rattle.protocol.specs.Steps as steps
use Rattle.protocol.specs.Steps.{going, new_worker, fate_as, step_at}
use Rattle.protocol.specs.Rounds.{State, worker_at, Ruling, memory_after, copies_after, fate_after, arrived_after, after_ruling, stays_in, joins_next, joins_waiting, member}
use Rattle.protocol.specs.Rounds.{without, freed, entry_of, apply, new_round}
use Rattle.protocol.specs.Turns.{workers_of, is_first, closing, closed, move}
use Rattle.protocol.specs.Sum.{sum_of, Change, moved_by, settled_change, change_by, move_change}
use Rattle.protocol.specs.Report.{entry_length, log_bytes}
use Rattle.protocol.specs.Calls.{memory_length, log_length}
use Rattle.protocol.proofs.Counting.{freed-length, freed-at}
use Rattle.protocol.proofs.Sums.{move-moves}
use Rattle.pages.specs.Copies.{copies_in, slot_count}
use Rattle.worker.specs.Private.{viewed, held_as}
use Rattle.worker.specs.declared.Worker.{Worker}
use Rattle.locks.specs.Set.{Shows}
use Rattle.journal.specs.declared.report.Counts.{Counts}
use Rattle.decisions.specs.declared.lists.Lists.{Lists}
use Rattle.rules.specs.Codes.{fate_code}
use Rattle.decisions.specs.Moves.{ListsMoved}
use Rattle.token.specs.Token.{TurnedOver}
use Rattle.token.specs.declared.Round.{Round}
use Rattle.engine.specs.declared.state.Schedule.{Schedule}
use Rattle.engine.specs.Kept.{Kept, kept, private_of}
use Rattle.engine.specs.Refines.{SameBytes, SameLog, Refines}
use Rattle.engine.specs.Holding.{head_of}
use Rattle.engine.specs.Moving.{Able, state_of, AfterMove}
use Rattle.engine.proofs.CanMove.{can-token, mark_set}
use Rattle.engine.proofs.Parts.{bytes-moved, scheduled, RoundTurned, turned-over}
use Rattle.engine.proofs.Facts.{Holder, rule_at, applied, hold-core, hold-arrived, hold-move}
use Rattle.engine.proofs.Here.{inv, known, small, holds-token}

-- what is kept behind the step, which leaves the holder with the record v
abbrev pub held_kept : Kept → ℕ → Worker → (fates : List ℕ) (can copied : List Bool) (memory log : List ℕ) → Kept
held_kept k w v fates can copied memory log =
    kept (set k.places w v.place) (set k.held w v.held) k.registers fates can copied memory log k.work

-- what the code leaves of the holder's step, ruled by R
pub record StepDone (s : State) (w : ℕ) (y : Sync) (R : Ruling) (t : Schedule) (k : Kept) (v : Worker) (ls : Lists) (r : Round) (sum' : ℕ) (fates' : List ℕ) (can' copied' : List Bool)
    (memory' log' : List ℕ) : Type 0 where
  pub lists : ListsMoved t.lists R w ls
  pub worker : v ≡ held_as (private_of k w) v.held
  pub locks : Shows v.held R.held
  pub fate_count : length fates' ≡ workers_limit
  pub fates : (u : ℕ)
      → get_or fates' u 0 ≡ cond (eqb u w) (fate_code (fate_after R.goes)) (cond (member u (R.wakes ++ R.joins)) 0 (get_or k.fates u 0))
  pub shared : memory' ≡ memory_after R.bytes (copies_in k.copied k.work w) k.memory
  pub moved : sum' ≡ moved_by (settled_change R.bytes (copies_in k.copied k.work w) k.memory) t.sum
  pub mine : copies_in copied' k.work w ≡ copies_after R.bytes (copies_in k.copied k.work w)
  pub others : (u : ℕ) → (u ≡ w → ⊥) → copies_in copied' k.work u ≡ copies_in k.copied k.work u
  pub memory_size : length memory' ≡ memory_length
  pub mark_size : length copied' ≡ slot_count
  pub entry : take (entry_length * (t.counts.records + 1)) log' ≡ log_bytes (s.log ++ (entry_of s w y R.outcome ∷ []))
  pub log_size : length log' ≡ log_length
  pub over : TurnedOver (head_of ls.list) ls.next w t.counts.rounds k.can r can'

-- what is counted behind it
abbrev pub held_counts : Schedule → Round → Counts
held_counts t r = record { moves = t.counts.moves + 1; rounds = r.rounds; records = t.counts.records + 1 }

-- the end of a round leaves the workers, the bytes and the log

closing-bytes : {n : ℕ} {s : State} {k : Kept} (ws : List ℕ) → SameBytes n s k → SameBytes n (closing ws s) k
unfolding new_round
closing-bytes [] b = record { shared = b.shared; worker = b.worker; locks = b.locks; sizes = b.sizes; marks = b.marks }
closing-bytes (w ∷ ws) b = b

closing-log : {s : State} {i : ℕ} {log : List ℕ} (ws : List ℕ) → SameLog s i log → SameLog (closing ws s) i log
unfolding new_round
closing-log [] l = record { count = l.count; bytes = l.bytes; size = l.size }
closing-log (w ∷ ws) l = l

closing-moves : (s : State) (ws : List ℕ) → (closing ws s).moves ≡ s.moves
unfolding new_round
closing-moves s [] = refl
closing-moves s (w ∷ ws) = refl

module _ {file sizes firsts : List ℕ} {w : ℕ} {t : Schedule} {k : Kept} (a : Able file sizes firsts w t k) (near : t.away ≡ 0)
    {y : Sync} (step : step_at (plan_of file) w (worker_at (state_of a) w).place ≡ sync y)
    {v : Worker} {ls : Lists} {r : Round} {sum' : ℕ} {fates' : List ℕ} {can' copied' : List Bool} {memory' log' : List ℕ}
    (done : StepDone (state_of a) w y (rule_at (plan_of file) (state_of a) w y) t k v ls r sum' fates' can' copied' memory' log') where
  abbrev s : State
  s = state_of a

  h : Holder s w
  h = holds-token a near

  abbrev R : Ruling
  R = rule_at (plan_of file) s w y

  abbrev out : List ℕ
  out = R.wakes ++ R.joins

  abbrev after : State
  after = applied (plan_of file) s w y h.rest

  abbrev k' : Kept
  k' = held_kept k w v fates' can' copied' memory' log'

  -- the holder and the others
  at-holder : worker_at after w ≡ after_ruling R (worker_at s w)
  unfolding apply
  at-holder =
      get_or-set_same (freed out s.workers) w (after_ruling R (worker_at s w)) new_worker
      (rw (freed-length out s.workers, (inv a).core.size) (known a))

  at_other : (u : ℕ) → (u ≡ w → ⊥) → worker_at after u ≡ cond (member u out) (fate_as going (worker_at s u)) (worker_at s u)
  unfolding apply
  at_other u ne = get_or-set_other (freed out s.workers) w u (after_ruling R (worker_at s w)) new_worker ne ∙ freed-at out s.workers u

  view : worker_at s w ≡ viewed (private_of k w) (worker_at s w).held (worker_at s w).arrived (copies_in k.copied k.work w) (worker_at s w).fate
  view = a.refines.bytes.worker w (known a)

  -- the records
  record-here : private_of k' w ≡ held_as (private_of k w) v.held
  record-here =
      rw (get_or-set_same k.places w v.place 0 (omega (arith, small a, a.refines.entries.places)))
      (rw (get_or-set_same k.held w v.held 0 (omega (arith, small a, a.refines.entries.held)))
      (ap (λ (q : Worker). held_as' q.place q.held) done.worker))
    where
      held_as' : ℕ → ℕ → Worker
      held_as' place held = record { place = place; held = held; registers = get_or k.registers w [] }

  records : (u : ℕ) → (u ≡ w → ⊥) → private_of k' u ≡ private_of k u
  records u ne = rw (get_or-set_other k.places w u v.place 0 ne, get_or-set_other k.held w u v.held 0 ne)

  mine : worker_at after w ≡ viewed (private_of k' w) R.held (arrived_after R.goes) (copies_in copied' k.work w) (fate_after R.goes)
  mine =
      at-holder
      ∙ ap (λ (x : steps.Worker). after_ruling R x) view
      ∙ ap (λ (cs : Copies). viewed (held_as (private_of k w) v.held) R.held (arrived_after R.goes) cs (fate_after R.goes)) (sym done.mine)
      ∙ ap (λ (q : Worker). viewed q R.held (arrived_after R.goes) (copies_in copied' k.work w) (fate_after R.goes)) (sym record-here)

  locks-here : Shows (get_or k'.held w 0) R.held
  locks-here = subst⁻¹ (λ (q : Worker). Shows q.held R.held) record-here done.locks

  others : (u : ℕ) → (u ≡ w → ⊥) → worker_at after u ≡ fate_as (worker_at after u).fate (worker_at s u)
  others u ne = subst⁻¹ (λ (x : steps.Worker). x ≡ fate_as x.fate (worker_at s u)) (at_other u ne) (go (member u out))
    where
      go : (b : Bool) → cond b (fate_as going (worker_at s u)) (worker_at s u) ≡ fate_as (cond b (fate_as going (worker_at s u)) (worker_at s u)).fate (worker_at s u)
      go true = refl
      go false = refl

  shared : after.memory ≡ memory'
  unfolding apply
  shared =
      ap (λ (x : steps.Worker). memory_after R.bytes x.copies s.memory) view
      ∙ ap (λ (m : List ℕ). memory_after R.bytes (copies_in k.copied k.work w) m) a.refines.bytes.shared
      ∙ sym done.shared

  bytes : SameBytes (workers_of (plan_of file)) after k'
  bytes =
      bytes-moved a.refines.bytes shared (record { memory_length = done.memory_size; work_length = a.refines.bytes.sizes.work_length })
      done.mark_size mine locks-here others records done.others

  fates : (u : ℕ) → u < workers_of (plan_of file) → get_or fates' u 0 ≡ fate_code (worker_at after u).fate
  fates u l = done.fates u ∙ go (ℕ_discrete u w)
    where
      free : (b : Bool) → cond b 0 (get_or k.fates u 0) ≡ fate_code (cond b (fate_as going (worker_at s u)) (worker_at s u)).fate
      free true = refl
      free false = a.refines.lists.fates u l

      coded : Bool → ℕ
      coded b = cond b (fate_code (fate_after R.goes)) (cond (member u out) 0 (get_or k.fates u 0))

      go : Dec (u ≡ w) → coded (eqb u w) ≡ fate_code (worker_at after u).fate
      go (yes e) =
          ap coded (eq-eqb u w e)
          ∙ sym (ap (λ (i : ℕ). fate_code (worker_at after i).fate) e ∙ ap (λ (x : steps.Worker). fate_code x.fate) at-holder)
      go (no ne) =
          ap coded (ne_eqb u w ne)
          ∙ free (member u out)
          ∙ sym (ap (λ (x : steps.Worker). fate_code x.fate) (at_other u ne))

  -- the lists
  list : ls.list ≡ after.list
  unfolding apply
  list = done.lists.list ∙ ap (λ (ws : List ℕ). stays_in R.goes w ++ (R.wakes ++ drop 1 ws)) (a.refines.lists.list ∙ h.list)

  next : ls.next ≡ after.next
  unfolding apply
  next = done.lists.next ∙ ap (λ (ws : List ℕ). ws ++ (R.joins ++ joins_next R.goes w)) a.refines.lists.next

  waiting : ls.waiting ≡ after.waiting
  unfolding apply
  waiting = done.lists.waiting ∙ ap (λ (ws : List ℕ). without out ws ++ joins_waiting R.goes w) a.refines.lists.waiting

  -- before its step the holder alone can move
  down : (u : ℕ) → u < workers_limit → get_or (set k.can w false) u false ≡ false
  down u l =
      mark_set k.can w u false (rw a.refines.entries.can l)
      ∙ ap (λ (b : Bool). cond (eqb u w) false b) (a.refines.lists.able u l ∙ can-token s u h.all ∙ ap (λ (ws : List ℕ). is_first u ws) h.list)
      ∙ go (eqb u w)
    where
      go : (b : Bool) → cond b false b ≡ false
      go true = refl
      go false = refl

  round : after.rounds ≡ t.counts.rounds
  unfolding apply
  round = a.refines.rounds

  turned : RoundTurned (workers_of (plan_of file)) (closed after) ls r (held_counts t r) sum' k'
  turned =
      turned-over (plan_of file) after ls r (held_counts t r) sum' w t.counts.rounds k.can k' (hold-core (plan_of file) s (inv a).core w y h step)
      (hold-arrived (plan_of file) s (inv a).core w y h step) list next waiting fates down a.refines.entries.can round done.over

  logged : SameLog after (t.counts.records + 1) log'
  unfolding apply
  logged = record { count = length-append s.log _ ∙ ap (λ (i : ℕ). i + 1) a.refines.log.count; bytes = done.entry; size = done.log_size }

  counted : after.moves ≡ t.counts.moves + 1
  unfolding apply
  counted = ap (λ (i : ℕ). i + 1) a.refines.moves

  -- the sum: the step's change is that of the ruling
  own-change : move_change (plan_of file) s w ≡ settled_change R.bytes (copies_in k.copied k.work w) k.memory
  unfolding move_change
  own-change =
      ap (λ (q : Step). change_by (plan_of file) q (worker_at s w).arrived w s) step
      ∙ ap (λ (b : Bool). change_by (plan_of file) (sync y) b w s) h.arrived
      ∙ ap (λ (x : steps.Worker). settled_change R.bytes x.copies s.memory) view
      ∙ ap (λ (m : List ℕ). settled_change R.bytes (copies_in k.copied k.work w) m) a.refines.bytes.shared

  moved : sum' ≡ moved_by (move_change (plan_of file) s w) t.sum
  moved = done.moved ∙ ap (λ (c : Change). moved_by c t.sum) (sym own-change)

  afresh : sum' ≡ sum_of (move (plan_of file) s w).memory
  afresh = moved ∙ ap (moved_by (move_change (plan_of file) s w)) a.refines.sum ∙ sym (move-moves (plan_of file) s w)

  simulated : Refines (workers_of (plan_of file)) (move (plan_of file) s w) (scheduled ls r (held_counts t r) sum') k'
  simulated =
      subst⁻¹ (λ (x : State). Refines (workers_of (plan_of file)) x (scheduled ls r (held_counts t r) sum') k')
      (hold-move (plan_of file) s (inv a).core w y h step)
      record {
        entries =
            record {
              places = length-set k.places w v.place ∙ a.refines.entries.places;
              held = length-set k.held w v.held ∙ a.refines.entries.held;
              registers = a.refines.entries.registers;
              fates = done.fate_count;
              can = turned.marks;
            };
        bytes = closing-bytes after.list bytes;
        lists = turned.lists;
        log = closing-log after.list logged;
        moves = closing-moves after after.list ∙ counted;
        rounds = turned.rounds;
        sum = afresh ∙ ap (λ (x : State). sum_of x.memory) (hold-move (plan_of file) s (inv a).core w y h step);
      }

  pub hold-simulates : AfterMove (plan_of file) s w t (scheduled ls r (held_counts t r) sum') k'
  hold-simulates = record { refines = simulated; moved = moved }
