-- The round-by-round run is one run of moves, from the start to the end.
use Prim.Native.Nat.{ℕ, zero, suc, ◌+◌, ◌<◌, ◌≤◌}
use native.Mathlib.Nat.{add-suc}
use native.Mathlib.Decide.{ℕ_discrete, dec_lt}
use native.Mathlib.Omega.{arith}
use mathlib.Core.Bool.{Bool, true, false, ◌||◌}
use mathlib.Core.Path.{◌≡◌, refl, sym, ap, ◌∙◌, subst, subst⁻¹}
use mathlib.Core.List.{List, [], ◌∷◌}
use lib.Dec.{eqb}
use lib.ListN.{length, get_or, set}
use lib.Seq.{get_or-set_same, get_or-set_other}
use borrow.Author.Tests.{eq-eqb, ne_eqb}
use Rattle.protocol.specs.Format.{Own, Step, own, sync, Sync, Plan}
use Rattle.protocol.specs.Steps.{Worker, new_worker, arrived_as, own_step}
use Rattle.protocol.specs.Rounds.{State, worker_at, own_move, arrival, member, sync_move, new_round, Ruling, rule_of, queue_of, fate_in}
use Rattle.protocol.specs.Turns.{workers_of, start, all_arrived, can, move, closed, closing, ended, none_left, behind}
use Rattle.protocol.specs.RoundRun.{move_limit, step_now, run_up, fence, holder_step, token, one_round, rounds_from, round_run}
use Rattle.protocol.specs.Demands.{occurs}
use Rattle.protocol.proofs.Bools.{or-false, or-holds}
use Rattle.protocol.proofs.Obeys.{machine}
use Rattle.protocol.proofs.Laws.{start-worker}
use Rattle.protocol.proofs.Confluence.{Run, here, via, joined, Laws, run-kept, run-falls}
use Rattle.protocol.proofs.Invariant.{measure, Core, Inv}
use Rattle.protocol.proofs.OwnMoves.{listed, own-leaves}
use Rattle.protocol.proofs.Rulings.{Lawful, applied-core, applied-arrived}
use Rattle.protocol.proofs.Rules.{rule-lawful}
use Rattle.protocol.proofs.Fence.{can-run_up, can-hold, all-arrived, arrived-all}
use Rattle.protocol.proofs.Counting.{occurs-same, occurs-tail, some-member}

-- whether a worker has arrived
abbrev mark : State → ℕ → Bool
mark s w = (worker_at s w).arrived

or-regroup : (a b c : Bool) → ((a || (b || false)) || c) ≡ (a || (b || c))
or-regroup true b c = refl
or-regroup false true c = refl
or-regroup false false c = refl

-- a replaced record that says the same of a worker
set_same : (f : Worker → Bool) (vs : List Worker) (w : ℕ) (x : Worker) → f x ≡ f (get_or vs w new_worker)
    → (v : ℕ) → f (get_or (set vs w x) v new_worker) ≡ f (get_or vs v new_worker)
set_same f [] w x e v = refl
set_same f (y ∷ ys) zero x e zero = e
set_same f (y ∷ ys) zero x e (suc v) = refl
set_same f (y ∷ ys) (suc w) x e zero = refl
set_same f (y ∷ ys) (suc w) x e (suc v) = set_same f ys w x e v

own_move-mark : (o : Own) (w : ℕ) (s : State) (v : ℕ) → mark (own_move o w s) v ≡ mark s v
own_move-mark o w s v = set_same (λ x. x.arrived) s.workers w (own_step s.memory o (worker_at s w)) (own-leaves s.memory o (worker_at s w)).arrived v

arrival-mark : (w : ℕ) (s : State) → w < length s.workers → (v : ℕ) → mark (arrival w s) v ≡ (mark s v || member v (w ∷ []))
unfolding member
arrival-mark w s h v = go (ℕ_discrete v w)
  where
    go : Dec (v ≡ w) → mark (arrival w s) v ≡ (mark s v || (eqb v w || false))
    go (yes e) = rw (e, eq-eqb w w refl) (ap (λ (x : Worker). x.arrived) (get_or-set_same s.workers w (arrived_as true (worker_at s w)) new_worker h) ∙ sym (or-holds (mark s w) refl))
    go (no ne) = rw (ne_eqb v w ne) (ap (λ (x : Worker). x.arrived) (get_or-set_other s.workers w v (arrived_as true (worker_at s w)) new_worker ne) ∙ sym (or-false (mark s v)))

-- who has not arrived can move
can-fence : (s : State) (w : ℕ) → 0 < occurs w s.list → mark s w ≡ false → can s w ≡ true
can-fence s w h a = can-run_up s w (some-member w s.list h) a

-- what a move is
module _ (plan : Plan) (s : State) (w : ℕ) where
  move-own : (o : Own) → step_now plan s w ≡ own o → move plan s w ≡ own_move o w s
  unfolding move
  move-own o e = rw e

  move-arrives : (y : Sync) → step_now plan s w ≡ sync y → mark s w ≡ false → move plan s w ≡ arrival w s
  unfolding move
  move-arrives y e a = rw (e, a)

  move-sync : (y : Sync) → step_now plan s w ≡ sync y → mark s w ≡ true → move plan s w ≡ closed (sync_move plan y w (behind s.list) s)
  unfolding move
  move-sync y e a = rw (e, a)

-- What a stretch of the fence leaves: it is a run of moves, after which those in ws have arrived besides.
record Fenced (plan : Plan) (ws : List ℕ) (s t : State) : Type 0 where
  moves : ℕ
  run : Run (machine plan) s t moves
  list : t.list ≡ s.list
  marks : (v : ℕ) → mark t v ≡ (mark s v || member v ws)

fenced-then : (plan : Plan) (w : ℕ) (ws : List ℕ) (s t u : State) → Fenced plan (w ∷ []) s t → Fenced plan ws t u → Fenced plan (w ∷ ws) s u
unfolding member
fenced-then plan w ws s t u f g =
    record {
      moves = f.moves + g.moves;
      run = joined (machine plan) f.run g.run;
      list = g.list ∙ f.list;
      marks =
          λ v. g.marks v ∙ ap (λ (b : Bool). b || member v ws) (f.marks v) ∙ or-regroup (mark s v) (eqb v w) (member v ws);
    }

-- the loops, at a list that is known
closed-empty : (s : State) → s.list ≡ [] → closed s ≡ new_round s
closed-empty s e = subst⁻¹ (λ (l : List ℕ). closing l s ≡ new_round s) e refl

closed-full : (s : State) (h : ℕ) (rest : List ℕ) → s.list ≡ h ∷ rest → closed s ≡ s
closed-full s h rest e = subst⁻¹ (λ (l : List ℕ). closing l s ≡ s) e refl

token-empty : (k : ℕ) (plan : Plan) (s : State) → s.list ≡ [] → token k plan s ≡ s
unfolding token
token-empty zero plan s e = refl
token-empty (suc k) plan s e =
    subst⁻¹ (λ (l : List ℕ). elim l [ [] ↦ s | h ∷ rest ↦ token k plan (holder_step plan (step_now plan s h) h rest s) ] ≡ s) e refl

token-full : (k : ℕ) (plan : Plan) (s : State) (h : ℕ) (rest : List ℕ) → s.list ≡ h ∷ rest
    → token (suc k) plan s ≡ token k plan (holder_step plan (step_now plan s h) h rest s)
unfolding token
token-full k plan s h rest e =
    subst⁻¹
    (λ (l : List ℕ).
    elim l [ [] ↦ s | h ∷ rest ↦ token k plan (holder_step plan (step_now plan s h) h rest s) ]
    ≡ token k plan (holder_step plan (step_now plan s h) h rest s))
    e refl

rounds-empty : (k : ℕ) (plan : Plan) (s : State) → s.list ≡ [] → rounds_from k plan s ≡ s
unfolding rounds_from
rounds-empty zero plan s e = refl
rounds-empty (suc k) plan s e = subst⁻¹ (λ (l : List ℕ). elim l [ [] ↦ s | w ∷ ws ↦ rounds_from k plan (one_round plan s) ] ≡ s) e refl

rounds-full : (k : ℕ) (plan : Plan) (s : State) (w : ℕ) (ws : List ℕ) → s.list ≡ w ∷ ws → rounds_from (suc k) plan s ≡ rounds_from k plan (one_round plan s)
unfolding rounds_from
rounds-full k plan s w ws e =
    subst⁻¹ (λ (l : List ℕ). elim l [ [] ↦ s | w ∷ ws ↦ rounds_from k plan (one_round plan s) ] ≡ rounds_from k plan (one_round plan s)) e refl

-- nobody in the list has arrived
abbrev Fresh : State → Type 0
Fresh s = (v : ℕ) → 0 < occurs v s.list → mark s v ≡ false

-- everybody in the list has arrived
abbrev Full : State → Type 0
Full s = all_arrived s s.list ≡ true

full-own : (o : Own) (w : ℕ) (s : State) → Full s → Full (own_move o w s)
full-own o w s a = arrived-all (own_move o w s) s.list (λ v l. own_move-mark o w s v ∙ all-arrived s v s.list a (some-member v s.list l))

-- at least one move, to the start of a round
record Rounded (plan : Plan) (s t : State) : Type 0 where
  moves : ℕ
  run : Run (machine plan) s t (suc moves)
  fresh : Fresh t

fresh_start : (plan : Plan) (memory : List ℕ) → Fresh (start plan memory)
unfolding new_worker
fresh_start plan memory v o = start-worker plan memory v (λ x. x.arrived ≡ false) (λ l. refl) (λ l. refl)

-- a run of moves to the end
pub record Ends (plan : Plan) (s t : State) : Type 0 where
  pub moves : ℕ
  pub run : Run (machine plan) s t moves
  pub end : ended t ≡ true

module _ (plan : Plan) (laws : Laws (machine plan) (Inv plan) (workers_of plan)) where
  kept_by : {s t : State} {k : ℕ} → Run (machine plan) s t k → Inv plan s → Inv plan t
  kept_by r i = run-kept (machine plan) (Inv plan) (workers_of plan) laws r i

  falls_by : {s t : State} {k : ℕ} → Run (machine plan) s t k → Inv plan s → measure plan t + k ≤ measure plan s
  falls_by r i = run-falls (machine plan) (Inv plan) (workers_of plan) laws r i

  exists : (s : State) (w : ℕ) → Inv plan s → 0 < occurs w s.list → w < length s.workers
  exists s w i h = rw i.core.size (listed plan s w i.core h).known

  -- a worker runs up to its next synchronising step
  runs_up_to_fence : (k w : ℕ) (s : State) → Inv plan s → measure plan s ≤ k → 0 < occurs w s.list → mark s w ≡ false
      → Fenced plan (w ∷ []) s (run_up k plan w s)
  unfolding run_up
  runs_up_to_fence zero w s i h o a = absurd (omega (arith, laws.falls s w i (can-fence s w o a)))
  runs_up_to_fence (suc k) w s i h o a =
      go (step_now plan s w) refl λ x e.
      runs_up_to_fence k w (own_move x w s) (subst (Inv plan) (move-own plan s w x e) (laws.kept s w i c))
      (omega (arith, subst (λ (t : State). measure plan t < measure plan s) (move-own plan s w x e) (laws.falls s w i c)))
      o
      (own_move-mark x w s w ∙ a)
    where
      c : can s w ≡ true
      c = can-fence s w o a

      after : Step → State
      after p = elim p [ own x ↦ run_up k plan w (own_move x w s) | sync y ↦ arrival w s ]

      go :
          (p : Step) → step_now plan s w ≡ p
          → ((x : Own) → step_now plan s w ≡ own x → Fenced plan (w ∷ []) (own_move x w s) (run_up k plan w (own_move x w s)))
          → Fenced plan (w ∷ []) s (after p)
      go (own x) e f =
          let r = f x e in
          record {
            moves = suc r.moves;
            run = via (machine plan) w c (move-own plan s w x e) r.run;
            list = r.list;
            marks = λ v. r.marks v ∙ ap (λ (b : Bool). b || member v (w ∷ [])) (own_move-mark x w s v);
          }
      go (sync y) e f =
          record {
            moves = 1;
            run = via (machine plan) w c (move-arrives plan s w y e a) here;
            list = refl;
            marks = arrival-mark w s (exists s w i o);
          }

  fenced : (k : ℕ) (ws : List ℕ) (s : State) → Inv plan s → measure plan s ≤ k
      → ((v : ℕ) → 0 < occurs v ws → 0 < occurs v s.list) → ((v : ℕ) → 0 < occurs v ws → mark s v ≡ false) → ((v : ℕ) → occurs v ws ≤ 1)
      → Fenced plan ws s (fence k plan ws s)
  unfolding fence member
  fenced k [] s i h l a d = record { moves = 0; run = here; list = refl; marks = λ v. sym (or-false (mark s v)) }
  fenced k (w ∷ ws) s i h l a d =
      let o : 0 < occurs w (w ∷ ws) = omega (arith, occurs-same w ws) in
      let f = runs_up_to_fence k w s i h (l w o) (a w o) in
      fenced-then plan w ws s (run_up k plan w s) (fence k plan ws (run_up k plan w s)) f
      (fenced k ws (run_up k plan w s) (kept_by f.run i)
      (omega (arith, falls_by f.run i))
      (λ v p. subst⁻¹ (λ (x : List ℕ). 0 < occurs v x) f.list (l v (omega (arith, occurs-tail v w ws))))
      (λ v p. f.marks v ∙ rw (a v (omega (arith, occurs-tail v w ws)), ne_eqb v w (apart v p)))
      (λ v. omega (arith, d v, occurs-tail v w ws)))
    where
      apart : (v : ℕ) → 0 < occurs v ws → v ≡ w → ⊥
      apart v p e = let q : 0 < occurs w ws = rw e at p in omega (arith, d w, occurs-same w ws)

  Token : ℕ → Type 0
  Token k =
      (s : State) (h : ℕ) (rest : List ℕ) → s.list ≡ h ∷ rest → Inv plan s → Full s → measure plan s ≤ k
      → Rounded plan s (new_round (token k plan s))

  -- the holder's move, and what is left of the round
  module _ (k : ℕ) (later : Token k) (s : State) (h : ℕ) (rest : List ℕ) (e : s.list ≡ h ∷ rest) (i : Inv plan s) (a : Full s)
      (c : can s h ≡ true) (m : measure plan s ≤ suc k) where
    on : (t : State) (h' : ℕ) (rest' : List ℕ) → move plan s h ≡ t → t.list ≡ h' ∷ rest' → Full t → Rounded plan s (new_round (token k plan t))
    unfolding Token
    on t h' rest' q l b =
        let r =
        later t h' rest' l (subst (Inv plan) q (laws.kept s h i c)) b
        (omega (arith, subst (λ (t : State). measure plan t < measure plan s) q (laws.falls s h i c)))
        in
        record { moves = suc r.moves; run = via (machine plan) h c q r.run; fresh = r.fresh }

    first : 0 < occurs h s.list
    first = subst⁻¹ (λ (l : List ℕ). 0 < occurs h l) e (omega (arith, occurs-same h rest))

    arrived : mark s h ≡ true
    arrived = all-arrived s h s.list a (some-member h s.list first)

    held-sync : (y : Sync) → step_now plan s h ≡ sync y → Rounded plan s (new_round (token k plan (sync_move plan y h rest s)))
    unfolding new_round
    held-sync y q = go t.list refl
      where
        t : State
        t = sync_move plan y h rest s

        r : Ruling
        r = rule_of plan (queue_of s) (fate_in s) (worker_at s h).held y

        law : Lawful plan s h r
        law = rule-lawful plan s h y i.core (listed plan s h i.core first) q

        core : Core plan t
        core = applied-core plan s y r h rest i.core e arrived law

        moved : move plan s h ≡ closed t
        moved = move-sync plan s h y q arrived ∙ ap (λ (l : List ℕ). closed (sync_move plan y h (behind l) s)) e

        go : (l : List ℕ) → t.list ≡ l → Rounded plan s (new_round (token k plan t))
        go [] z =
            subst⁻¹ (λ (u : State). Rounded plan s (new_round u)) (token-empty k plan t z)
            record { moves = 0; run = via (machine plan) h c (moved ∙ closed-empty t z) here; fresh = λ v o. (core.stands v).fresh o }
        go (h' ∷ rest') z = on t h' rest' (moved ∙ closed-full t h' rest' z) z (applied-arrived plan s y r h rest i.core e arrived law a)

    held : (p : Step) → step_now plan s h ≡ p → Rounded plan s (new_round (token k plan (holder_step plan p h rest s)))
    held (own x) q = on (own_move x h s) h rest (move-own plan s h x q) e (full-own x h s a)
    held (sync y) q = held-sync y q

  tokened : (k : ℕ) → Token k
  unfolding Token
  tokened zero s h rest e i a m = absurd (omega (arith, laws.falls s h i (can-hold s h rest e a)))
  tokened (suc k) s h rest e i a m =
      subst⁻¹ (λ (t : State). Rounded plan s (new_round t)) (token-full k plan s h rest e)
      (held k (tokened k) s h rest e i a (can-hold s h rest e a) m (step_now plan s h) refl)

  -- a whole round
  rounded : (s : State) (w : ℕ) (ws : List ℕ) → s.list ≡ w ∷ ws → Inv plan s → Fresh s → Rounded plan s (one_round plan s)
  unfolding Token
  rounded s w ws e i a =
      let r = tokened k t w ws (f.list ∙ e) (kept_by f.run i) full (omega (arith, falls_by f.run i, i.core.spent)) in
      record { moves = f.moves + r.moves; run = rw add-suc at (joined (machine plan) f.run r.run); fresh = r.fresh }
    where
      k : ℕ
      k = move_limit plan

      t : State
      t = fence k plan s.list s

      once : (v : ℕ) → Dec (0 < occurs v s.list) → occurs v s.list ≤ 1
      once v (yes o) = omega (arith, (listed plan s v i.core o).once)
      once v (no o) = omega arith

      f : Fenced plan s.list s t
      f =
          fenced k s.list s i (omega (arith, i.core.spent)) (λ v o. o) a
          (λ v. once v (dec_lt 0 (occurs v s.list)))

      full : Full t
      full =
          arrived-all t t.list
          (λ v o.
          let p : member v s.list ≡ true = some-member v s.list (subst (λ (l : List ℕ). 0 < occurs v l) f.list o) in
          f.marks v ∙ ap (λ (b : Bool). mark s v || b) p ∙ or-holds (mark s v) refl)

  stop : (k : ℕ) (s : State) → s.list ≡ [] → Ends plan s (rounds_from k plan s)
  stop k s e = subst⁻¹ (Ends plan s) (rounds-empty k plan s e) record { moves = 0; run = here; end = ap none_left e }

  rounds-end : (k : ℕ) (s : State) → Inv plan s → Fresh s → measure plan s ≤ k → Ends plan s (rounds_from k plan s)
  rounds-end zero s i a m = go s.list refl
    where
      go : (l : List ℕ) → s.list ≡ l → Ends plan s (rounds_from zero plan s)
      go [] e = stop zero s e
      go (w ∷ ws) e = let (v, x, c) = laws.goes_on s i (ap none_left e) in absurd (omega (arith, laws.falls s v i c))
  rounds-end (suc k) s i a m = go s.list refl (rounds-end k)
    where
      go :
          (l : List ℕ) → s.list ≡ l
          → ((t : State) → Inv plan t → Fresh t → measure plan t ≤ k → Ends plan t (rounds_from k plan t))
          → Ends plan s (rounds_from (suc k) plan s)
      go [] e f = stop (suc k) s e
      go (w ∷ ws) e f =
          let r = rounded s w ws e i a in
          let z = f (one_round plan s) (kept_by r.run i) r.fresh (omega (arith, falls_by r.run i)) in
          subst⁻¹ (Ends plan s) (rounds-full k plan s w ws e)
          record { moves = suc r.moves + z.moves; run = joined (machine plan) r.run z.run; end = z.end }

  pub by-rounds : (memory : List ℕ) → Inv plan (start plan memory) → Ends plan (start plan memory) (round_run plan memory)
  by-rounds memory i = rounds-end (move_limit plan) (start plan memory) i (fresh_start plan memory) (omega (arith, i.core.spent))
