-- Who can move, and moves before the fence: each changes its worker's record and the tally, so that two of them commute.
use Prim.Native.Nat.{ℕ, ◌+◌, ◌<◌}
use native.Mathlib.Omega.{arith}
use mathlib.Core.Bool.{Bool, true, false, ◌&&◌, ◌||◌}
use mathlib.Core.Path.{◌≡◌, refl, sym, ap, ◌∙◌, subst⁻¹}
use mathlib.Core.List.{List, [], ◌∷◌}
use lib.Dec.{eqb}
use lib.Seq.{get_or-set_other, set_comm}
use borrow.Author.Tests.{eqb-true, eq-eqb}
use Rattle.protocol.specs.Format.{Step, own, sync, Plan}
use Rattle.protocol.specs.Steps.{Worker, new_worker, arrived_as, own_step, step_at}
use Rattle.protocol.specs.Rounds.{State, worker_at, worker_moved, member}
use Rattle.protocol.specs.Turns.{all_arrived, is_first, can, move_by, move}
use Rattle.protocol.specs.Demands.{occurs}
use Rattle.protocol.proofs.Counting.{clash, occurs-same, occurs-tail}

-- `can`, read as facts: the worker runs up to the fence, or it holds the token
pub data Can (s : State) (w : ℕ) : Type 0 where
  runs_up : member w s.list ≡ true → (worker_at s w).arrived ≡ false → Can s w
  holds : (rest : List ℕ) → s.list ≡ w ∷ rest → (worker_at s w).arrived ≡ true → all_arrived s s.list ≡ true → Can s w

first-is : (w : ℕ) (ws : List ℕ) → is_first w ws ≡ true → (rest : List ℕ) × (ws ≡ w ∷ rest)
first-is w [] q = clash q
first-is w (v ∷ vs) q = (vs, rw (eqb-true w v q))

pub can-view : (s : State) (w : ℕ) → can s w ≡ true → Can s w
unfolding can all_arrived
can-view s w q = go (member w s.list) refl (worker_at s w).arrived refl (all_arrived s s.list) refl (is_first w s.list) refl
  where
    holder : (worker_at s w).arrived ≡ true → all_arrived s s.list ≡ true → (rest : List ℕ) × (s.list ≡ w ∷ rest) → Can s w
    holder a all r = holds r.0 r.1 a all

    go : (m : Bool) → member w s.list ≡ m → (a : Bool) → (worker_at s w).arrived ≡ a → (all : Bool) → all_arrived s s.list ≡ all
        → (f : Bool) → is_first w s.list ≡ f → Can s w
    go false m a p all r f t = clash (simp m at q)
    go true m false p all r f t = runs_up m p
    go true m true p false r true t = clash (simp (m, p, r, t) at q)
    go true m true p false r false t = clash (simp (m, p, r, t) at q)
    go true m true p true r false t = clash (simp (m, p, r, t) at q)
    go true m true p true r true t = holder p r (first-is w s.list t)

-- whoever is in the list and has not arrived can move, and so can the first once all have arrived
pub can-run_up : (s : State) (w : ℕ) → member w s.list ≡ true → (worker_at s w).arrived ≡ false → can s w ≡ true
unfolding can
can-run_up s w m a = rw (m, a)

pub can-hold : (s : State) (w : ℕ) (rest : List ℕ) → s.list ≡ w ∷ rest → all_arrived s s.list ≡ true → can s w ≡ true
unfolding can member
can-hold s w rest e all = go (worker_at s w).arrived refl
  where
    inside : member w s.list ≡ true
    inside = ap (λ (ws : List ℕ). member w ws) e ∙ rw (eq-eqb w w refl)

    first : is_first w s.list ≡ true
    first = ap (λ (ws : List ℕ). is_first w ws) e ∙ eq-eqb w w refl

    go : (a : Bool) → (worker_at s w).arrived ≡ a → can s w ≡ true
    go true p = simp (inside, p, all, first)
    go false p = can-run_up s w inside p

pub all-arrived : (s : State) (w : ℕ) (ws : List ℕ) → all_arrived s ws ≡ true → member w ws ≡ true → (worker_at s w).arrived ≡ true
unfolding all_arrived member
all-arrived s w [] p q = clash q
all-arrived s w (v ∷ vs) p q = go (worker_at s v).arrived refl (eqb w v) refl p q (all-arrived s w vs)
  where
    go : (a : Bool) → (worker_at s v).arrived ≡ a → (b : Bool) → eqb w v ≡ b → (a && all_arrived s vs) ≡ true → (b || member w vs) ≡ true
        → (all_arrived s vs ≡ true → member w vs ≡ true → (worker_at s w).arrived ≡ true) → (worker_at s w).arrived ≡ true
    go false a b e p q f = clash p
    go true a true e p q f = rw (eqb-true w v e) a
    go true a false e p q f = f p q

pub arrived-all : (s : State) (ws : List ℕ) → ((w : ℕ) → 0 < occurs w ws → (worker_at s w).arrived ≡ true) → all_arrived s ws ≡ true
unfolding all_arrived
arrived-all s [] f = refl
arrived-all s (v ∷ vs) f =
    rw (f v (omega (arith, occurs-same v vs))) (arrived-all s vs (λ w l. f w (omega (arith, occurs-tail w v vs))))

-- Two workers can both move only before the fence.
pub both-fenced : (s : State) (v w : ℕ) → Can s v → Can s w → (v ≡ w → ⊥) → (worker_at s v).arrived ≡ false
both-fenced s v w (runs_up m a) c ne = a
both-fenced s v w (holds rest e a all) (runs_up m b) ne = clash (sym b ∙ all-arrived s w s.list all m)
both-fenced s v w (holds rest e a all) (holds rest' e' b all') ne = absurd (ne (cc))

pub in_list : (s : State) (w : ℕ) → Can s w → member w s.list ≡ true
unfolding member
in_list s w (runs_up m a) = m
in_list s w (holds rest e a all) = subst⁻¹ (λ (ws : List ℕ). member w ws ≡ true) e (rw (eq-eqb w w refl))

-- a worker after its move before the fence: its own step, or the arrival
abbrev pub fenced : Step → List ℕ → Worker → Worker
fenced (own o) memory v = own_step memory o v
fenced (sync y) memory v = arrived_as true v

abbrev pub fenced_at : Plan → State → ℕ → Worker
fenced_at plan s w = fenced (step_at plan w (worker_at s w).place) s.memory (worker_at s w)

pub fence-move : (plan : Plan) (s : State) (w : ℕ) → (worker_at s w).arrived ≡ false → move plan s w ≡ worker_moved w (fenced_at plan s w) s
unfolding move
fence-move plan s w a = go (step_at plan w (worker_at s w).place)
  where
    go : (t : Step) → move_by plan t (worker_at s w).arrived w s ≡ worker_moved w (fenced t s.memory (worker_at s w)) s
    go (own o) = refl
    go (sync y) = rw a

-- another worker's move before the fence leaves a worker as it was
pub moved_other : (s : State) (v w : ℕ) (x : Worker) → (v ≡ w → ⊥) → worker_at (worker_moved v x s) w ≡ worker_at s w
moved_other s v w x ne = get_or-set_other s.workers v w x new_worker (λ e. ne (sym e))

twice : (plan : Plan) (s : State) (v w : ℕ) → (worker_at s v).arrived ≡ false → (worker_at s w).arrived ≡ false → (v ≡ w → ⊥)
    → move plan (move plan s v) w ≡ worker_moved w (fenced_at plan s w) (worker_moved v (fenced_at plan s v) s)
twice plan s v w a b ne =
    let x : Worker = fenced_at plan s v in
    let e : worker_at (worker_moved v x s) w ≡ worker_at s w = moved_other s v w x ne in
    ap (λ (t : State). move plan t w) (fence-move plan s v a)
    ∙ fence-move plan (worker_moved v x s) w (rw e b)
    ∙ ap (λ (u : Worker). worker_moved w (fenced (step_at plan w u.place) s.memory u) (worker_moved v x s)) e

pub fenced-commute : (plan : Plan) (s : State) (v w : ℕ) → (worker_at s v).arrived ≡ false → (worker_at s w).arrived ≡ false → (v ≡ w → ⊥)
    → move plan (move plan s v) w ≡ move plan (move plan s w) v
fenced-commute plan s v w a b ne =
    twice plan s v w a b ne ∙ swap (fenced_at plan s v) (fenced_at plan s w) ∙ sym (twice plan s w v b a (λ e. ne (sym e)))
  where
    swap : (x y : Worker) → worker_moved w y (worker_moved v x s) ≡ worker_moved v x (worker_moved w y s)
    swap x y =
        ap (λ (vs : List Worker). record { memory = s.memory; workers = vs; list = s.list; next = s.next; waiting = s.waiting; log = s.log; moves = s.moves + 1 + 1; rounds = s.rounds })
        (set_comm s.workers v w x y ne)

pub fenced-stays : (plan : Plan) (s : State) (v w : ℕ) → (worker_at s v).arrived ≡ false → (worker_at s w).arrived ≡ false → member w s.list ≡ true
    → (v ≡ w → ⊥) → can (move plan s v) w ≡ true
fenced-stays plan s v w a b m ne =
    rw (fence-move plan s v a) (can-run_up (worker_moved v x s) w m (rw (moved_other s v w x ne) b))
  where
    x : Worker
    x = fenced_at plan s v
