-- The parts of the refinement relation after a move: the workers' records and the bytes, and the lists with the marks at the end of a holder's step.
use Prim.Native.Nat.{ℕ, ◌+◌, ◌<◌}
use native.Mathlib.Decide.{ℕ_discrete}
use mathlib.Core.Bool.{Bool, true, false}
use mathlib.Core.Path.{◌≡◌, refl, sym, ap, ◌∙◌, subst, subst⁻¹}
use mathlib.Core.List.{List, [], ◌∷◌}
use Rattle.std.specs.Prelude.{Option}
use lib.Dec.{eqb}
use lib.ListN.{length, get_or, set, length-set}
use Rattle.protocol.specs.Format.{workers_limit, Plan}
use Rattle.protocol.specs.Pages.{Copies}
use Rattle.protocol.specs.Steps as steps
use Rattle.protocol.specs.Steps.{Fate, fate_as}
use Rattle.protocol.specs.Rounds.{State, worker_at, member, new_round}
use Rattle.protocol.specs.Turns.{workers_of, all_arrived, is_first, can, closing, closed, none_left}
use Rattle.protocol.proofs.Bools.{or-fails}
use Rattle.protocol.proofs.Invariant.{Core}
use Rattle.protocol.proofs.Counting.{clash, member-some}
use Rattle.pages.specs.Copies.{Lent, copies_in, slot_count}
use Rattle.worker.specs.Private.{viewed}
use Rattle.worker.specs.declared.Worker.{Worker}
use Rattle.locks.specs.Set.{Shows}
use Rattle.journal.specs.declared.report.Counts.{Counts}
use Rattle.decisions.specs.declared.lists.Lists.{Lists}
use Rattle.rules.specs.Codes.{fate_code}
use Rattle.token.specs.Token.{raised, NewRound, SameRound, TurnedOver}
use Rattle.token.specs.declared.Round.{Round}
use Rattle.engine.specs.declared.state.Schedule.{Schedule}
use Rattle.engine.specs.Kept.{Kept, private_of}
use Rattle.engine.specs.Holding.{head_of, lists_begun}
use Rattle.engine.specs.Refines.{SameBytes, SameLists}
use Rattle.engine.proofs.CanMove.{cond-false, none-away, can-token, can-fence, away-all, mark_set, raised-length, raised_at}

-- a worker seen as a record of the code and the rest is so seen with its own locks, arrival and fate
pub as-viewed : {x : steps.Worker} (v : Worker) {ls : List ℕ} {a : Bool} {cs : Copies} {f : Fate} → x ≡ viewed v ls a cs f
    → x ≡ viewed v x.held x.arrived cs x.fate
as-viewed {x} v {ls} {a} {cs} {f} e = subst⁻¹ (λ (y : steps.Worker). y ≡ viewed v y.held y.arrived cs y.fate) e refl

-- One worker has a new record and new copies. Of the others only the fate may be new.
pub bytes-moved : {n w : ℕ} {s s' : State} {k k' : Kept} {ls : List ℕ} {a : Bool} {f : Fate} → SameBytes n s k
    → s'.memory ≡ k'.memory → Lent k'.memory k'.work → length k'.copied ≡ slot_count
    → worker_at s' w ≡ viewed (private_of k' w) ls a (copies_in k'.copied k'.work w) f
    → Shows (get_or k'.held w 0) ls
    → ((u : ℕ) → (u ≡ w → ⊥) → worker_at s' u ≡ fate_as (worker_at s' u).fate (worker_at s u))
    → ((u : ℕ) → (u ≡ w → ⊥) → private_of k' u ≡ private_of k u)
    → ((u : ℕ) → (u ≡ w → ⊥) → copies_in k'.copied k'.work u ≡ copies_in k.copied k.work u)
    → SameBytes n s' k'
bytes-moved {n} {w} {s} {s'} {k} {k'} {ls} b shared sizes marks mine locks others records copies =
    record { shared = shared; worker = λ u l. go u l (ℕ_discrete u w); locks = λ u l. shown u l (ℕ_discrete u w); sizes = sizes; marks = marks }
  where
    Seen : ℕ → Worker → Copies → Type 0
    Seen u v cs = worker_at s' u ≡ viewed v (worker_at s' u).held (worker_at s' u).arrived cs (worker_at s' u).fate

    go : (u : ℕ) → u < n → Dec (u ≡ w) → Seen u (private_of k' u) (copies_in k'.copied k'.work u)
    go u l (yes e) =
        subst⁻¹ (λ (i : ℕ). Seen i (private_of k' i) (copies_in k'.copied k'.work i)) e (as-viewed (private_of k' w) mine)
    go u l (no ne) =
        subst⁻¹ (λ (v : Worker). Seen u v (copies_in k'.copied k'.work u)) (records u ne)
        (subst⁻¹ (λ (cs : Copies). Seen u (private_of k u) cs) (copies u ne)
        (as-viewed (private_of k u) (others u ne ∙ ap (λ (x : steps.Worker). fate_as (worker_at s' u).fate x) (b.worker u l))))

    shown : (u : ℕ) → u < n → Dec (u ≡ w) → Shows (get_or k'.held u 0) (worker_at s' u).held
    shown u l (yes e) =
        subst⁻¹ (λ (i : ℕ). Shows (get_or k'.held i 0) (worker_at s' i).held) e
        (subst⁻¹ (λ (x : steps.Worker). Shows (get_or k'.held w 0) x.held) mine locks)
    shown u l (no ne) =
        subst⁻¹ (λ (v : Worker). Shows v.held (worker_at s' u).held) (records u ne)
        (subst⁻¹ (λ (x : steps.Worker). Shows (get_or k.held u 0) x.held) (others u ne) (b.locks u l))

-- the schedule behind a holder's step, whose round goes on or is the next
abbrev pub scheduled : Lists → Round → Counts → ℕ → Schedule
scheduled lists r counts sum =
    record { lists = lists_begun lists r.begun; away = r.away; counts = counts; sum = sum }

pub record RoundTurned (n : ℕ) (s : State) (ls : Lists) (r : Round) (counts : Counts) (sum : ℕ) (k : Kept) : Type 0 where
  pub lists : SameLists n s (scheduled ls r counts sum) k
  pub marks : length k.can ≡ workers_limit
  pub rounds : s.rounds ≡ r.rounds

pub first-eqb : (u : ℕ) (ws : List ℕ) → none_left ws ≡ false → is_first u ws ≡ eqb u (get_or ws 0 0)
first-eqb u [] e = clash (sym e)
first-eqb u (w ∷ ws) e = refl

module _ (plan : Plan) (s : State) (lists : Lists) (r : Round) (counts : Counts) (sum w rounds : ℕ) (marks : List Bool) (k : Kept)
    (c : Core plan s) (all : all_arrived s s.list ≡ true)
    (list : lists.list ≡ s.list) (next : lists.next ≡ s.next) (waiting : lists.waiting ≡ s.waiting)
    (fates : (u : ℕ) → u < workers_of plan → get_or k.fates u 0 ≡ fate_code (worker_at s u).fate)
    (down : (u : ℕ) → u < workers_limit → get_or (set marks w false) u false ≡ false) (count : length marks ≡ workers_limit) (round : s.rounds ≡ rounds)
    (over : TurnedOver (head_of lists.list) lists.next w rounds marks r k.can) where
  marked : length (set marks w false) ≡ workers_limit
  marked = length-set marks w false ∙ count

  same-round : (v : ℕ) (vs : List ℕ) → s.list ≡ v ∷ vs → SameRound v w rounds marks r k.can → RoundTurned (workers_of plan) s lists r counts sum k
  same-round v vs e g =
      record {
        lists = record {
          list = ap (λ (b : Option (List ℕ)). (lists_begun lists b).list) g.here ∙ list;
          next = ap (λ (b : Option (List ℕ)). (lists_begun lists b).next) g.here ∙ next;
          waiting = ap (λ (b : Option (List ℕ)). (lists_begun lists b).waiting) g.here ∙ waiting;
          away = g.behind ∙ sym (none-away s s.list all);
          fates = fates;
          able = able;
        };
        marks = ap length g.marks ∙ length-set (set marks w false) _ true ∙ marked;
        rounds = round ∙ sym g.counted;
      }
    where
      head : v ≡ get_or s.list 0 0
      head = sym (ap (λ (ws : List ℕ). get_or ws 0 0) e)

      some : none_left s.list ≡ false
      some = ap none_left e

      able : (u : ℕ) → u < workers_limit → get_or k.can u false ≡ can s u
      able u l =
          ap (λ (m : List Bool). get_or m u false) (g.marks ∙ ap (λ (i : ℕ). set (set marks w false) i true) head)
          ∙ mark_set (set marks w false) (get_or s.list 0 0) u true (rw marked l)
          ∙ cond-false (eqb u (get_or s.list 0 0)) (down u l)
          ∙ sym (first-eqb u s.list some)
          ∙ sym (can-token s u all)

  -- whoever is in the next list has its fence before it
  fresh : (u : ℕ) → member u s.next ≡ true → (worker_at s u).arrived ≡ false
  fresh u m = (c.stands u).fresh (member-some u s.next m)

  next-round : NewRound lists.next w rounds marks r k.can → RoundTurned (workers_of plan) (new_round s) lists r counts sum k
  unfolding new_round
  next-round g =
      record {
        lists = record {
          list = ap (λ (b : Option (List ℕ)). (lists_begun lists b).list) g.here ∙ next;
          next = ap (λ (b : Option (List ℕ)). (lists_begun lists b).next) g.here;
          waiting = ap (λ (b : Option (List ℕ)). (lists_begun lists b).waiting) g.here ∙ waiting;
          away = g.behind ∙ ap length next ∙ sym (away-all (new_round s) s.next fresh);
          fates = fates;
          able = able;
        };
        marks = ap length g.marks ∙ raised-length lists.next (set marks w false) ∙ marked;
        rounds = ap (λ (i : ℕ). i + 1) round ∙ sym g.counted;
      }
    where
      able : (u : ℕ) → u < workers_limit → get_or k.can u false ≡ can (new_round s) u
      able u l =
          ap (λ (m : List Bool). get_or m u false) (g.marks ∙ ap (λ (ws : List ℕ). raised ws (set marks w false)) next)
          ∙ raised_at s.next (set marks w false) u (rw marked l)
          ∙ or-fails (member u s.next) (down u l)
          ∙ sym (can-fence (new_round s) u fresh)

  pub turned-over : RoundTurned (workers_of plan) (closed s) lists r counts sum k
  turned-over = go s.list refl
    where
      go : (ws : List ℕ) → s.list ≡ ws → RoundTurned (workers_of plan) (closing ws s) lists r counts sum k
      go [] e = next-round (subst (λ (us : List ℕ). TurnedOver (head_of us) lists.next w rounds marks r k.can) (list ∙ e) over)
      go (v ∷ vs) e = same-round v vs e (subst (λ (us : List ℕ). TurnedOver (head_of us) lists.next w rounds marks r k.can) (list ∙ e) over)
