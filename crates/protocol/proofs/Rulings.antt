-- What a ruling does to the invariant: a rule is data, so this is one proof about rulings, and then a short case for each rule.
use Prim.Native.Nat.{ℕ, zero, suc, ◌+◌, ◌-◌, ◌*◌, ◌<◌, ◌≤◌}
use native.Mathlib.Decide.{dec_lt}
use native.Mathlib.Nat.{le_refl}
use native.Mathlib.Omega.{arith}
use mathlib.Core.Bool.{Bool, true, false, cond, not}
use mathlib.Core.Path.{◌≡◌, refl, ◌∙◌, subst⁻¹}
use mathlib.Core.List.{List, ◌∷◌, ◌++◌}
use lib.ListN.{length, get_or, set, length-set, length-append}
use Rattle.protocol.specs.Format.{Sync, Plan}
use Rattle.protocol.specs.Steps.{Fate, going, exited, failed, asleep, waiting, Worker, new_worker, fate_as, steps_of}
use Rattle.protocol.specs.Rounds.{State, worker_at, Goes, keeps, gives, leaves, Ruling, fate_after, has_arrived, arrived_after, after_ruling, stays_in, joins_next}
use Rattle.protocol.specs.Rounds.{joins_waiting, member, without, freed, apply}
use Rattle.protocol.specs.Turns.{workers_of, all_arrived}
use Rattle.protocol.specs.Demands.{occurs}
use Rattle.protocol.proofs.Invariant.{sum_of, runs, waits, rests, gone, tick, lasting, weight, weight_in, place_of, measure, Sane, Stands, Core}
use Rattle.protocol.proofs.Counting.{occurs-same, occurs-other, occurs-one, occurs-none, occurs-empty, occurs-append, occurs-kept, occurs-dropped, member-some}
use Rattle.protocol.proofs.Counting.{member-none, some-member, each_set, sum-falls, sum-rises, freed-length, freed-at}
use Rattle.protocol.proofs.Fence.{all-arrived, arrived-all}
use Rattle.protocol.proofs.OwnMoves.{one-fate, idler-exists, lasting-here, lasting-gone, Listed, listed}

-- a rule that sends the holder away gives it a fate in which it does not run
abbrev pub Leaving : Goes → Type 0
Leaving keeps = Unit {0}
Leaving gives = Unit {0}
Leaving (leaves f) = runs f ≡ 0

-- What every rule keeps to.
pub record Lawful (plan : Plan) (s : State) (h : ℕ) (r : Ruling) : Type 0 where
  -- whom it moves, it takes out of the waiting list or out of sleep, each once
  pub out : (w : ℕ) → occurs w (r.wakes ++ r.joins) ≤ occurs w s.waiting + rests (worker_at s w).fate
  pub woken : (w : ℕ) → 0 < occurs w r.wakes → (worker_at s w).arrived ≡ true
  pub joined : (w : ℕ) → 0 < occurs w r.joins → (worker_at s w).arrived ≡ false
  pub held_place : length r.held ≤ (worker_at s h).place + 1
  pub held_steps : length r.held ≤ length (steps_of plan h)
  pub within : (worker_at s h).place + 1 ≤ length (steps_of plan h) + gone (fate_after r.goes)
  pub leaving : Leaving r.goes

-- where the holder goes, by counts

settled : (g : Goes) (h : ℕ) → Leaving g → occurs h (stays_in g h) + occurs h (joins_next g h) ≡ runs (fate_after g)
settled keeps h l = omega (arith, occurs-one h, occurs-empty h)
settled gives h l = omega (arith, occurs-one h, occurs-empty h)
settled (leaves f) h l = omega (arith, occurs-empty h)

settled-waiting : (g : Goes) (h : ℕ) → occurs h (joins_waiting g h) ≡ waits (fate_after g)
settled-waiting keeps h = occurs-empty h
settled-waiting gives h = occurs-empty h
settled-waiting (leaves going) h = occurs-empty h
settled-waiting (leaves exited) h = occurs-empty h
settled-waiting (leaves failed) h = occurs-empty h
settled-waiting (leaves asleep) h = occurs-empty h
settled-waiting (leaves (waiting q)) h = occurs-one h

settled-fresh : (g : Goes) (h : ℕ) → 0 < occurs h (joins_next g h) → arrived_after g ≡ false
settled-fresh keeps h l = absurd (omega (arith, occurs-empty h))
settled-fresh gives h l = refl
settled-fresh (leaves f) h l = absurd (omega (arith, occurs-empty h))

settled-stay : (g : Goes) (h : ℕ) → 0 < occurs h (stays_in g h) → arrived_after g ≡ true
settled-stay keeps h l = refl
settled-stay gives h l = absurd (omega (arith, occurs-empty h))
settled-stay (leaves f) h l = absurd (omega (arith, occurs-empty h))

settled-still : (g : Goes) → runs (fate_after g) ≡ 0 → arrived_after g ≡ has_arrived (fate_after g)
settled-still keeps z = absurd (omega arith)
settled-still gives z = absurd (omega arith)
settled-still (leaves f) z = refl

-- the holder's place is no other worker's
record Apart (w h : ℕ) (g : Goes) : Type 0 where
  stay : occurs w (stays_in g h) ≡ 0
  next : occurs w (joins_next g h) ≡ 0
  wait : occurs w (joins_waiting g h) ≡ 0

apart : (w h : ℕ) (g : Goes) → (w ≡ h → ⊥) → Apart w h g
apart w h keeps ne = record { stay = occurs-none w h ne; next = occurs-empty w; wait = occurs-empty w }
apart w h gives ne = record { stay = occurs-empty w; next = occurs-none w h ne; wait = occurs-empty w }
apart w h (leaves going) ne = record { stay = occurs-empty w; next = occurs-empty w; wait = occurs-empty w }
apart w h (leaves exited) ne = record { stay = occurs-empty w; next = occurs-empty w; wait = occurs-empty w }
apart w h (leaves failed) ne = record { stay = occurs-empty w; next = occurs-empty w; wait = occurs-empty w }
apart w h (leaves asleep) ne = record { stay = occurs-empty w; next = occurs-empty w; wait = occurs-empty w }
apart w h (leaves (waiting q)) ne = record { stay = occurs-empty w; next = occurs-empty w; wait = occurs-none w h ne }

-- those taken out of the waiting list are in it no more
without-out : (w : ℕ) (out ws : List ℕ) → 0 < occurs w out → occurs w (without out ws) ≡ 0
without-out w out ws h = go (member w out) refl
  where
    go : (b : Bool) → member w out ≡ b → occurs w (without out ws) ≡ 0
    go true q = occurs-dropped (λ w. not (member w out)) w ws (rw q)
    go false q = absurd (omega (arith, member-none w out q))

without-others : (w : ℕ) (out ws : List ℕ) → occurs w out ≡ 0 → occurs w (without out ws) ≡ occurs w ws
without-others w out ws h = go (member w out) refl
  where
    go : (b : Bool) → member w out ≡ b → occurs w (without out ws) ≡ occurs w ws
    go true q = absurd (omega (arith, member-some w out q))
    go false q = occurs-kept (λ w. not (member w out)) w ws (rw q)

-- the holder is lighter after its step
holder-lighter : (steps : ℕ) (r : Ruling) (v : Worker) → v.fate ≡ going → v.arrived ≡ true → v.place ≤ steps
    → v.place + 1 ≤ steps + gone (fate_after r.goes) → weight steps (after_ruling r v) < weight steps v
holder-lighter steps r v g a p p' = rw (g, a) (go (gone (fate_after r.goes)) refl (one-fate (fate_after r.goes)) p')
  where
    f : Fate
    f = fate_after r.goes

    b : Bool
    b = arrived_after r.goes

    go : (k : ℕ) → gone f ≡ k → runs f + waits f + rests f + gone f ≡ 1 → v.place + 1 ≤ steps + gone f
        → lasting f (2 * (steps + 1 - (v.place + 1)) - tick b) < 2 * (steps + 1 - v.place) - 1
    go zero e one l = omega (arith, lasting-here f (2 * (steps + 1 - (v.place + 1)) - tick b) e)
    go (suc zero) e one l = omega (arith, lasting-gone f (2 * (steps + 1 - (v.place + 1)) - tick b) e)
    go (suc (suc k)) e one l = absurd (omega arith)

-- what comes out of the waiting list or out of sleep runs, with nothing else about it changed
freed-case : (out : List ℕ) (vs : List Worker) (w : ℕ) (P : Worker → Type 0) → (0 < occurs w out → P (fate_as going (get_or vs w new_worker)))
    → (occurs w out ≡ 0 → P (get_or vs w new_worker)) → P (get_or (freed out vs) w new_worker)
freed-case out vs w P f g = subst⁻¹ P (freed-at out vs w) (go (member w out) refl)
  where
    go : (b : Bool) → member w out ≡ b → P (cond b (fate_as going (get_or vs w new_worker)) (get_or vs w new_worker))
    go true q = f (member-some w out q)
    go false q = g (member-none w out q)

-- the lists after a ruling, and their counts
abbrev out_of : Ruling → List ℕ
out_of r = r.wakes ++ r.joins

abbrev list_after : Ruling → ℕ → List ℕ → List ℕ
list_after r h rest = stays_in r.goes h ++ (r.wakes ++ rest)

abbrev next_after : Ruling → ℕ → List ℕ → List ℕ
next_after r h next = next ++ (r.joins ++ joins_next r.goes h)

abbrev waiting_after : Ruling → ℕ → List ℕ → List ℕ
waiting_after r h waiters = without (out_of r) waiters ++ joins_waiting r.goes h

record OccursAfter (w : ℕ) (r : Ruling) (h : ℕ) (rest ns waiters : List ℕ) : Type 0 where
  list : occurs w (list_after r h rest) ≡ occurs w (stays_in r.goes h) + (occurs w r.wakes + occurs w rest)
  next : occurs w (next_after r h ns) ≡ occurs w ns + (occurs w r.joins + occurs w (joins_next r.goes h))
  wait : occurs w (waiting_after r h waiters) ≡ occurs w (without (out_of r) waiters) + occurs w (joins_waiting r.goes h)
  out : occurs w (out_of r) ≡ occurs w r.wakes + occurs w r.joins

counted : (w : ℕ) (r : Ruling) (h : ℕ) (rest ns waiters : List ℕ) → OccursAfter w r h rest ns waiters
counted w r h rest ns waiters =
    record {
      list = simp occurs-append;
      next = simp occurs-append;
      wait = simp occurs-append;
      out = simp occurs-append;
    }

-- The state after a ruling, before an emptied list closes its round.
module _ (plan : Plan) (s : State) (y : Sync) (r : Ruling) (h : ℕ) (rest : List ℕ) (c : Core plan s) (e : s.list ≡ h ∷ rest)
    (a : (worker_at s h).arrived ≡ true) (law : Lawful plan s h r) where
  holder : Listed plan s h
  holder = listed plan s h c (rw e (omega (arith, occurs-same h rest)))

  idler : (w : ℕ) → 0 < occurs w (out_of r) → waits (worker_at s w).fate + rests (worker_at s w).fate ≡ 1
  idler w l = omega (arith, law.out w, (c.stands w).queued, one-fate (worker_at s w).fate)

  small : h < length (freed (out_of r) s.workers)
  small = rw (freed-length (out_of r) s.workers, c.size) holder.known

  others-sane : (w : ℕ) → Sane (length (steps_of plan w)) (get_or (freed (out_of r) s.workers) w new_worker)
  others-sane w =
      freed-case (out_of r) s.workers w (Sane (length (steps_of plan w)))
      (λ l. record {
        within = omega (arith, idler w l, one-fate (worker_at s w).fate, (c.sane w).within);
        held_place = (c.sane w).held_place;
        held_steps = (c.sane w).held_steps;
        still = λ z. absurd (omega arith);
      })
      (λ l. c.sane w)

  others-stand : (w : ℕ) → (w ≡ h → ⊥)
      → Stands (workers_of plan) w (list_after r h rest) (next_after r h s.next) (waiting_after r h s.waiting) (get_or (freed (out_of r) s.workers) w new_worker)
  others-stand w ne =
      let n : OccursAfter w r h rest s.next s.waiting = counted w r h rest s.next s.waiting in
      let p : Apart w h r.goes = apart w h r.goes ne in
      let l : occurs w s.list ≡ occurs w rest = rw e (occurs-other w h rest ne) in
      let one : runs (worker_at s w).fate + waits (worker_at s w).fate + rests (worker_at s w).fate + gone (worker_at s w).fate ≡ 1 = one-fate (worker_at s w).fate in
      let st : Stands (workers_of plan) w s.list s.next s.waiting (worker_at s w) = c.stands w in
      freed-case (out_of r) s.workers w (Stands (workers_of plan) w (list_after r h rest) (next_after r h s.next) (waiting_after r h s.waiting))
      (λ o.
      let z : waits (worker_at s w).fate + rests (worker_at s w).fate ≡ 1 = idler w o in
      record {
        inside = λ k. omega (arith, st.inside k, law.out w, st.queued);
        outside = λ k. absurd (omega (arith, idler-exists plan s w c (omega arith)));
        queued = omega (arith, without-out w (out_of r) s.waiting o);
        fresh = λ k. law.joined w (omega (arith, st.inside (idler-exists plan s w c (omega arith))));
      })
      (λ o. record {
        inside = λ k. omega (arith, st.inside k);
        outside = λ k. omega (arith, st.outside k);
        queued = omega (arith, without-others w (out_of r) s.waiting o, st.queued);
        fresh = λ k. st.fresh (omega arith);
      })

  holder-sane : Sane (length (steps_of plan h)) (after_ruling r (worker_at s h))
  holder-sane =
      record {
        within = law.within;
        held_place = law.held_place;
        held_steps = law.held_steps;
        still = settled-still r.goes;
      }

  holder-stands : Stands (workers_of plan) h (list_after r h rest) (next_after r h s.next) (waiting_after r h s.waiting) (after_ruling r (worker_at s h))
  holder-stands =
      let n : OccursAfter h r h rest s.next s.waiting = counted h r h rest s.next s.waiting in
      let l : occurs h s.list ≡ 1 + occurs h rest = rw e (occurs-same h rest) in
      let k : Listed plan s h = holder in
      let o : occurs h (out_of r) ≡ 0 = omega (arith, law.out h) in
      let j : occurs h (joins_next r.goes h) ≤ runs (fate_after r.goes) = omega (arith, settled r.goes h law.leaving) in
      record {
        inside = λ _. omega (arith, settled r.goes h law.leaving);
        outside = λ b. absurd (omega arith);
        queued = omega (arith, without-others h (out_of r) s.waiting o, settled-waiting r.goes h);
        fresh = λ b. settled-fresh r.goes h (omega arith);
      }

  others-weigh : (w : ℕ) → weight_in plan w (get_or (freed (out_of r) s.workers) w new_worker) ≤ weight_in plan w (worker_at s w)
  others-weigh w =
      freed-case (out_of r) s.workers w (λ v. weight_in plan w v ≤ weight_in plan w (worker_at s w))
      (λ o.
      let left = 2 * (length (steps_of plan w) + 1 - (worker_at s w).place) - tick (worker_at s w).arrived in
      omega (arith, lasting-here (worker_at s w).fate left (omega (arith, idler w o, one-fate (worker_at s w).fate))))
      (λ o. le_refl _)

  pub applied-falls : measure plan (apply y r h rest s) < measure plan s
  unfolding measure apply
  applied-falls =
      sum-falls (weight_in plan) s.workers (freed (out_of r) s.workers) h (after_ruling r (worker_at s h)) (freed-length (out_of r) s.workers) small
      (λ w ne. others-weigh w) (holder-lighter (length (steps_of plan h)) r (worker_at s h) holder.runs_on a holder.place law.within)

  further : sum_of place_of s.workers < sum_of place_of (set (freed (out_of r) s.workers) h (after_ruling r (worker_at s h)))
  further =
      sum-rises place_of s.workers (freed (out_of r) s.workers) h (after_ruling r (worker_at s h)) (freed-length (out_of r) s.workers) small
      (λ w ne. freed-case (out_of r) s.workers w (λ v. (worker_at s w).place ≤ v.place) (λ o. le_refl _) (λ o. le_refl _))
      (omega arith)

  pub applied-core : Core plan (apply y r h rest s)
  unfolding apply
  applied-core =
      record {
        size = length-set (freed (out_of r) s.workers) h (after_ruling r (worker_at s h)) ∙ freed-length (out_of r) s.workers ∙ c.size;
        sane = each_set (λ w v. Sane (length (steps_of plan w)) v) (freed (out_of r) s.workers) h (after_ruling r (worker_at s h)) small (λ w ne. others-sane w) holder-sane;
        stands = each_set (λ w v. Stands (workers_of plan) w (list_after r h rest) (next_after r h s.next) (waiting_after r h s.waiting) v)
            (freed (out_of r) s.workers) h (after_ruling r (worker_at s h)) small others-stand holder-stands;
        logged = simp length-append (omega (arith, further, c.logged));
        spent = omega (arith, applied-falls, c.spent);
        rounded = omega (arith, c.rounded);
      }

  -- with the token, all of this round's list have arrived, and so have those that a rule puts into it
  listed-arrived : all_arrived s s.list ≡ true → (w : ℕ) → (w ≡ h → ⊥) → 0 < occurs w (list_after r h rest) → (worker_at s w).arrived ≡ true
  listed-arrived all w ne l = go (dec_lt 0 (occurs w r.wakes)) (counted w r h rest s.next s.waiting) (apart w h r.goes ne)
    where
      go : Dec (0 < occurs w r.wakes) → OccursAfter w r h rest s.next s.waiting → Apart w h r.goes → (worker_at s w).arrived ≡ true
      go (yes k) n p = law.woken w k
      go (no nk) n p = all-arrived s w s.list all (some-member w s.list (rw e (omega (arith, occurs-other w h rest ne))))

  holder-arrived : 0 < occurs h (list_after r h rest) → arrived_after r.goes ≡ true
  holder-arrived l =
      let n : OccursAfter h r h rest s.next s.waiting = counted h r h rest s.next s.waiting in
      let o : occurs h s.list ≡ 1 + occurs h rest = rw e (occurs-same h rest) in
      let k : Listed plan s h = holder in
      settled-stay r.goes h (omega (arith, law.out h))

  pub applied-arrived : all_arrived s s.list ≡ true → all_arrived (apply y r h rest s) (apply y r h rest s).list ≡ true
  unfolding apply
  applied-arrived all =
      arrived-all (apply y r h rest s) (list_after r h rest)
      (each_set (λ w v. 0 < occurs w (list_after r h rest) → v.arrived ≡ true) (freed (out_of r) s.workers) h (after_ruling r (worker_at s h)) small
      (λ w ne l. freed-case (out_of r) s.workers w (λ v. v.arrived ≡ true) (λ o. listed-arrived all w ne l) (λ o. listed-arrived all w ne l)) holder-arrived)
