-- What the invariant bounds: the log, the lists, counts, places, rounds and moves.
use Prim.Native.Nat.{ℕ, zero, suc, ◌+◌, ◌*◌, ◌<◌, ◌≤◌}
use native.Mathlib.Nat.{mul-suc}
use native.Mathlib.Decide.{ℕ_discrete, dec_lt}
use native.Mathlib.Omega.{arith}
use mathlib.Core.Bool.{Bool, true, false, cond, not}
use mathlib.Core.Path.{◌≡◌, refl}
use mathlib.Core.List.{List, [], ◌∷◌, ◌++◌}
use lib.Dec.{eqb}
use lib.ListN.{length, get_or, length-append}
use borrow.Author.Tests.{eq-eqb, ne_eqb}
use Rattle.protocol.specs.Format.{Step, Plan}
use Rattle.protocol.specs.Steps.{Worker, steps_of}
use Rattle.protocol.specs.Rounds.{State, worker_at, keep}
use Rattle.protocol.specs.Turns.{workers_of, start, play}
use Rattle.protocol.specs.RoundRun.{total, step_count, move_limit}
use Rattle.protocol.specs.Demands.{occurs}
use Rattle.protocol.proofs.Sound.{Sound}
use Rattle.protocol.proofs.Invariant.{sum_of, waits, rests, gone, place_of, Core, Inv}
use Rattle.protocol.proofs.Counting.{occurs-same, occurs-append, occurs-kept, occurs-dropped, sum_mono, occurs-other}
use Rattle.protocol.proofs.OwnMoves.{one-fate, idler-exists}
use Rattle.protocol.proofs.Laws.{start-inv}
use Rattle.protocol.proofs.Obeys.{play-inv}

-- a sound plan

total-bound : (m : ℕ) (steps : List (List Step)) → ((w : ℕ) → length (get_or steps w []) ≤ m) → total steps ≤ m * length steps
unfolding total
total-bound m [] f = omega arith
total-bound m (x ∷ xs) f = rw mul-suc (omega (arith, f 0, total-bound m xs (λ w. f (suc w))))

pub steps-bound : (plan : Plan) → Sound plan → step_count plan ≤ 1024
steps-bound plan sound = omega (arith, total-bound 128 plan.steps sound.lengths, sound.workers)

pub records-bound : (plan : Plan) → Sound plan → step_count plan + workers_of plan ≤ 1032
records-bound plan sound = omega (arith, steps-bound plan sound, sound.workers)

-- the log

places-bound : (steps : List (List Step)) (vs : List Worker) → length vs ≡ length steps
    → sum_of (λ w v. length (get_or steps w []) + 1) vs ≡ total steps + length steps
unfolding sum_of total
places-bound [] [] e = refl
places-bound [] (v ∷ vs) e = absurd (omega arith)
places-bound (x ∷ xs) [] e = absurd (omega arith)
places-bound (x ∷ xs) (v ∷ vs) e = omega (arith, places-bound xs vs (omega arith))

pub place-bound : (plan : Plan) (s : State) (w : ℕ) → Core plan s → (worker_at s w).place ≤ length (steps_of plan w) + 1
place-bound plan s w c = omega (arith, (c.sane w).within, one-fate (worker_at s w).fate)

pub log-bound : (plan : Plan) (s : State) → Core plan s → length s.log ≤ step_count plan + workers_of plan
log-bound plan s c =
    omega (
      arith,
      c.logged,
      places-bound plan.steps s.workers c.size,
      sum_mono place_of (λ w v. length (get_or plan.steps w []) + 1) s.workers s.workers refl (λ w l. place-bound plan s w c),
    )

-- the lists

shorter : (n : ℕ) (ws : List ℕ) → length ws ≡ length (keep (λ v. not (eqb n v)) ws) + occurs n ws
unfolding keep occurs
shorter n [] = refl
shorter n (v ∷ vs) = go (eqb n v) (shorter n vs)
  where
    go : (b : Bool) → length vs ≡ length (keep (λ v. not (eqb n v)) vs) + occurs n vs
        → suc (length vs) ≡ length (cond (not b) (v ∷ keep (λ v. not (eqb n v)) vs) (keep (λ v. not (eqb n v)) vs)) + (cond b 1 0 + occurs n vs)
    go true h = omega arith
    go false h = omega arith

-- a list of numbers below n in which none occurs twice holds at most n
pub pigeons : (n : ℕ) (ws : List ℕ) → ((w : ℕ) → occurs w ws ≤ 1) → ((w : ℕ) → n ≤ w → occurs w ws ≡ 0) → length ws ≤ n
pigeons zero [] f g = omega arith
pigeons zero (v ∷ vs) f g = absurd (omega (arith, g v (omega arith), occurs-same v vs))
pigeons (suc n) ws f g =
    omega (arith, shorter n ws, f n, pigeons n (keep (λ v. not (eqb n v)) ws) (λ w. below w (ℕ_discrete n w)) (λ w l. above w l (ℕ_discrete n w)))
  where
    below : (w : ℕ) → Dec (n ≡ w) → occurs w (keep (λ v. not (eqb n v)) ws) ≤ 1
    below w (yes e) = omega (arith, occurs-dropped (λ v. not (eqb n v)) w ws (rw (eq-eqb n w e)))
    below w (no ne) = omega (arith, occurs-kept (λ v. not (eqb n v)) w ws (rw (ne_eqb n w ne)), f w)

    above : (w : ℕ) → n ≤ w → Dec (n ≡ w) → occurs w (keep (λ v. not (eqb n v)) ws) ≡ 0
    above w l (yes e) = occurs-dropped (λ v. not (eqb n v)) w ws (rw (eq-eqb n w e))
    above w l (no ne) = omega (arith, occurs-kept (λ v. not (eqb n v)) w ws (rw (ne_eqb n w ne)), g w (omega arith))

-- each worker stands in one list, or sleeps, or has left; and nobody else stands anywhere
pub placed-once : (plan : Plan) (s : State) (w : ℕ) → Core plan s → w < workers_of plan
    → occurs w s.list + occurs w s.next + occurs w s.waiting + rests (worker_at s w).fate + gone (worker_at s w).fate ≡ 1
placed-once plan s w c l = omega (arith, (c.stands w).inside l, (c.stands w).queued, one-fate (worker_at s w).fate)

pub placed-none : (plan : Plan) (s : State) (w : ℕ) → Core plan s → workers_of plan ≤ w
    → occurs w s.list + occurs w s.next + occurs w s.waiting ≡ 0
placed-none plan s w c l = go (dec_lt 0 (waits (worker_at s w).fate))
  where
    go : Dec (0 < waits (worker_at s w).fate) → occurs w s.list + occurs w s.next + occurs w s.waiting ≡ 0
    go (yes k) = absurd (omega (arith, idler-exists plan s w c (omega arith)))
    go (no nk) = omega (arith, (c.stands w).outside l, (c.stands w).queued)

lists-occur : (s : State) (w : ℕ) → occurs w (s.list ++ s.next ++ s.waiting) ≡ occurs w s.list + occurs w s.next + occurs w s.waiting
lists-occur s w = simp occurs-append

-- "the three lists together hold at most n workers"
pub lists-bound : (plan : Plan) (s : State) → Core plan s → length s.list + length s.next + length s.waiting ≤ workers_of plan
lists-bound plan s c =
    omega (
      arith,
      length-append s.list s.next,
      length-append (s.list ++ s.next) s.waiting,
      pigeons (workers_of plan) (s.list ++ s.next ++ s.waiting) (λ w. most w (dec_lt w (workers_of plan))) (λ w l. rw (lists-occur s w) (placed-none plan s w c l)),
    )
  where
    most : (w : ℕ) → Dec (w < workers_of plan) → occurs w (s.list ++ s.next ++ s.waiting) ≤ 1
    most w (yes l) = omega (arith, lists-occur s w, placed-once plan s w c l)
    most w (no nl) = omega (arith, lists-occur s w, placed-none plan s w c (omega arith))

-- .. and one fewer while one of them sleeps
pub spare-bound : (plan : Plan) (s : State) (v : ℕ) → Core plan s → v < workers_of plan → rests (worker_at s v).fate ≡ 1
    → length s.list + length s.next + length s.waiting < workers_of plan
spare-bound plan s v c h z =
    omega (
      arith,
      length-append s.list s.next,
      length-append (s.list ++ s.next) s.waiting,
      pigeons (workers_of plan) (v ∷ (s.list ++ s.next ++ s.waiting)) (λ w. most w (dec_lt w (workers_of plan)) (ℕ_discrete w v))
          (λ w l. omega (arith, occurs-other w v (s.list ++ s.next ++ s.waiting) (λ e. omega arith), lists-occur s w, placed-none plan s w c l)),
    )
  where
    most : (w : ℕ) → Dec (w < workers_of plan) → Dec (w ≡ v) → occurs w (v ∷ (s.list ++ s.next ++ s.waiting)) ≤ 1
    most w l (yes e) =
        rw e (omega (arith, occurs-same v (s.list ++ s.next ++ s.waiting), lists-occur s v, placed-once plan s v c h))
    most w (yes l) (no ne) = omega (arith, occurs-other w v (s.list ++ s.next ++ s.waiting) ne, lists-occur s w, placed-once plan s w c l)
    most w (no nl) (no ne) = omega (arith, occurs-other w v (s.list ++ s.next ++ s.waiting) ne, lists-occur s w, placed-none plan s w c (omega arith))

-- All that the code counts, within a sound plan.
pub record Bounded (plan : Plan) (s : State) : Type 0 where
  pub records : length s.log ≤ step_count plan + workers_of plan
  pub records_fit : length s.log ≤ 1032
  pub lists : length s.list + length s.next + length s.waiting ≤ workers_of plan
  pub held : (w : ℕ) → length (worker_at s w).held ≤ 128
  pub held_place : (w : ℕ) → length (worker_at s w).held ≤ (worker_at s w).place
  pub place : (w : ℕ) → (worker_at s w).place ≤ length (steps_of plan w) + 1
  pub place_here : (w : ℕ) → gone (worker_at s w).fate ≡ 0 → (worker_at s w).place ≤ length (steps_of plan w)
  pub rounds : s.rounds ≤ s.moves
  pub moves : s.moves ≤ move_limit plan
  pub moves_fit : s.moves ≤ 2064

pub bounded : (plan : Plan) (s : State) → Sound plan → Inv plan s → Bounded plan s
bounded plan s sound i =
    let c : Core plan s = i.core in
    let l : length s.log ≤ step_count plan + workers_of plan = log-bound plan s c in
    let t : step_count plan + workers_of plan ≤ 1032 = records-bound plan sound in
    record {
      records = l;
      records_fit = omega arith;
      lists = lists-bound plan s c;
      held = λ w. omega (arith, (c.sane w).held_steps, sound.lengths w);
      held_place = λ w. (c.sane w).held_place;
      place = λ w. place-bound plan s w c;
      place_here = λ w g. omega (arith, (c.sane w).within);
      rounds = c.rounded;
      moves = omega (arith, c.spent);
      moves_fit = omega (arith, c.spent);
    }

-- every list of turns

pub played-bounded : (plan : Plan) → Sound plan → (memory turns : List ℕ) → Bounded plan (play plan (start plan memory) turns)
played-bounded plan sound memory turns = bounded plan _ sound (play-inv plan sound (start plan memory) turns (start-inv plan memory sound))
