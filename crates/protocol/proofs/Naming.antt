-- Five: a plan whose round-by-round run meets neither failure leaves, under every list of turns, what it left when its locks went by count.
-- The two runs stand side by side: the state by count is the state by names with a mark in the place of each lock.
-- Assumes nothing.
use Prim.Native.Nat.{ℕ, suc, ◌-◌, ◌≤◌}
use native.Mathlib.Omega.{arith}
use mathlib.Core.Bool.{Bool, true, false, cond, not, ◌&&◌, ◌||◌}
use mathlib.Core.Path.{◌≡◌, refl, sym, ap, ◌∙◌, subst⁻¹}
use mathlib.Core.List.{List, [], ◌∷◌, ◌++◌}
use borrow.Author.Tests.{ne_eqb}
use lib.Dec.{eqb, ltb}
use lib.ListN.{length, get_or, drop}
use Rattle.protocol.specs.Format.{Own, assign, load, store, add, subtract, skip_zero, skip_nonzero, Sync, lock, unlock, wait, signal, broadcast, barrier, start_worker, exit}
use Rattle.protocol.specs.Format.{sync, by_name, by_count, Plan, counting_locks, plan_of}
use Rattle.protocol.specs.Refusals.{Verdict, accepted, check}
use Rattle.protocol.specs.Steps.{QueueName, at_barrier, Fate, Worker, own_step, step_at}
use Rattle.protocol.specs.Rounds.{Entry, State, worker_at, queue_of, fate_in, Ruling, member, remove, rule_of, apply}
use Rattle.protocol.specs.Rounds.{entry_of, sync_move, is_asleep}
use Rattle.protocol.specs.Turns.{start, can, behind, closed, move}
use Rattle.protocol.specs.RoundRun.{round_run}
use Rattle.protocol.specs.Report.{report_bytes}
use Rattle.protocol.specs.Calls.{Buffers, buffers_of, lent_log, played_from, reply_of, run_verdict, run}
use Rattle.protocol.specs.Demands.{Prefix, misnames, lock_failed, no_lock_failed, FailureLogged, AsByCount, LeftAsByCount}
use Rattle.protocol.proofs.Bools.{split, not-false}
use Rattle.protocol.proofs.Counting.{clash}
use Rattle.protocol.proofs.Locks.{file-named, unlocked-fewer}
use Rattle.protocol.proofs.Bounds.{played-bounded}
use Rattle.protocol.proofs.Sound.{Sound}
use Rattle.protocol.proofs.Accepted.{sound-file}
use Rattle.protocol.proofs.Formed.{run-file}
use Rattle.protocol.proofs.Laws.{closed-keeps, grows}
use Rattle.protocol.proofs.Obeys.{machine, same-play}
use Rattle.protocol.proofs.Demand3.{demand3}
use Rattle.protocol.proofs.SideBySide.{SideBySide, side_by_side}
use Rattle.protocol.proofs.Redrawn.{Redrawing, drawn, drawn_ruling, redrawn, same-can, move-redrawn, start-redrawn, same-report}

-- a mark for each lock

unfoldable marks : List ℕ → List ℕ
marks [] = []
marks (k ∷ ks) = 0 ∷ marks ks

no-marks : marks [] ≡ []
unfolding marks
no-marks = refl

-- the state by count: shared memory and copies are the same
abbrev counting : Redrawing
counting = record { memory = λ memory. memory; held = marks; copies = λ copies. copies; none_held = no-marks; none_copied = refl }

length-marks : (ks : List ℕ) → length (marks ks) ≡ length ks
unfolding marks
length-marks [] = refl
length-marks (k ∷ ks) = ap suc (length-marks ks)

first-mark : (k : ℕ) (ks : List ℕ) → member k ks ≡ true → marks ks ≡ 0 ∷ drop 1 (marks ks)
unfolding marks member
first-mark k [] m = clash m
first-mark k (j ∷ js) m = refl

-- whichever lock is given back, there is a mark less
removed-marks : (k : ℕ) (ks : List ℕ) → member k ks ≡ true → drop 1 (marks ks) ≡ marks (remove k ks)
unfolding marks member remove
removed-marks k [] m = clash m
removed-marks k (j ∷ js) m = go (eqb k j) m (removed-marks k js)
  where
    go :
        (b : Bool) → (b || member k js) ≡ true → (member k js ≡ true → drop 1 (marks js) ≡ marks (remove k js))
        → marks js ≡ marks (cond b js (j ∷ remove k js))
    go true m f = refl
    go false m f = first-mark k js m ∙ ap (λ (xs : List ℕ). 0 ∷ xs) (f m)

-- own steps

own-marked : (memory : List ℕ) (o : Own) (v : Worker) → own_step memory o (drawn counting v) ≡ drawn counting (own_step memory o v)
unfolding own_step
own-marked memory (assign r k) v = refl
own-marked memory (load r k) v = refl
own-marked memory (store r k) v = refl
own-marked memory (add r k) v = refl
own-marked memory (subtract r k) v = refl
own-marked memory (skip_zero r k) v = refl
own-marked memory (skip_nonzero r k) v = refl

-- the rules

abbrev marked_ruling : Ruling → Ruling
marked_ruling r = drawn_ruling counting r

by-test : (b : Bool) (r r' : Ruling) → cond b (marked_ruling r) (marked_ruling r') ≡ marked_ruling (cond b r r')
by-test true r r' = refl
by-test false r r' = refl

by_tests : (b c : Bool) (r r' r'' : Ruling) → cond b (marked_ruling r) (cond c (marked_ruling r') (marked_ruling r'')) ≡ marked_ruling (cond b r (cond c r' r''))
by_tests true c r r' r'' = refl
by_tests false c r r' r'' = by-test c r' r''

suc-not-zero : {k : ℕ} → suc k ≡ 0 → ⊥
suc-not-zero e = omega arith

module _ (plan : Plan) (named : plan.locks ≡ by_name) (queue : QueueName → List ℕ) (fates : ℕ → Fate) (held : List ℕ) where
  -- a step that meets neither has the same rule by count
  same-rule : (y : Sync) → misnames held y ≡ false
      → rule_of (counting_locks plan) queue fates (marks held) y ≡ marked_ruling (rule_of plan queue fates held y)
  unfolding rule_of marks
  same-rule (lock k) ok = rw (named, ok, length-marks held)
  same-rule (unlock k) ok =
      let m : member k held ≡ true = not-false (member k held) ok in
      let some : eqb (length (marks held)) 0 ≡ false = ne_eqb (length (marks held)) 0 (λ z. suc-not-zero (ap length (sym (first-mark k held m)) ∙ z)) in
      rw (named, m, some, removed-marks k held m, length-marks (remove k held))
  same-rule (wait c) ok = rw (length-marks held) (by-test (eqb (length held) 0) _ _)
  same-rule (signal c) ok = rw (length-marks held)
  same-rule (broadcast c) ok = rw (length-marks held)
  same-rule (barrier b) ok =
      rw (length-marks held) (by_tests (not (eqb (length held) 0)) (ltb (length (queue (at_barrier b))) (get_or plan.sizes b 0 - 1)) _ _ _)
  same-rule (start_worker w) ok = by-test (is_asleep (fates w)) _ _
  same-rule exit ok = rw (length-marks held) (by-test (not (eqb (length held) 0)) _ _)

-- the log

module _ (plan : Plan) (named : plan.locks ≡ by_name) where
  -- a step that meets one of the failures is shown in the log
  failed-shown : (y : Sync) (h : ℕ) (s : State) → misnames (worker_at s h).held y ≡ true
      → lock_failed (entry_of s h y (rule_of plan (queue_of s) (fate_in s) (worker_at s h).held y).outcome) ≡ true
  unfolding rule_of
  failed-shown (lock k) h s bad = rw (named, bad)
  failed-shown (unlock k) h s bad = rw (named, bad)
  failed-shown (wait c) h s bad = clash bad
  failed-shown (signal c) h s bad = clash bad
  failed-shown (broadcast c) h s bad = clash bad
  failed-shown (barrier b) h s bad = clash bad
  failed-shown (start_worker w) h s bad = clash bad
  failed-shown exit h s bad = clash bad

  -- .. and so is no other step
  only-failed-shown : (y : Sync) (h : ℕ) (s : State) → length (worker_at s h).held ≤ 128 → misnames (worker_at s h).held y ≡ false
      → lock_failed (entry_of s h y (rule_of plan (queue_of s) (fate_in s) (worker_at s h).held y).outcome) ≡ false
  unfolding rule_of
  only-failed-shown (lock k) h s few ok = rw (named, ok) (ne_eqb (suc (length (worker_at s h).held)) 254 (λ z. too_many few z))
    where
      too_many : {n : ℕ} → n ≤ 128 → suc n ≡ 254 → ⊥
      too_many f z = omega arith
  only-failed-shown (unlock k) h s few ok =
      rw (named, ok) (ne_eqb (length (remove k (worker_at s h).held)) 254 (λ z. too_many few (unlocked-fewer by_name k (worker_at s h).held) z))
    where
      too_many : {n m : ℕ} → n ≤ 128 → m ≤ n → m ≡ 254 → ⊥
      too_many f l z = omega arith
  only-failed-shown (wait c) h s few ok = refl
  only-failed-shown (signal c) h s few ok = refl
  only-failed-shown (broadcast c) h s few ok = refl
  only-failed-shown (barrier b) h s few ok = refl
  only-failed-shown (start_worker w) h s few ok = refl
  only-failed-shown exit h s few ok = refl

-- what a log shows is shown by every longer one

clean-append : (es fs : List Entry) → no_lock_failed (es ++ fs) ≡ true → no_lock_failed es ≡ true
unfolding no_lock_failed
clean-append [] fs h = refl
clean-append (e ∷ es) fs h = go (not (lock_failed e)) h (clean-append es fs)
  where
    go : (b : Bool) → (b && no_lock_failed (es ++ fs)) ≡ true → (no_lock_failed (es ++ fs) ≡ true → no_lock_failed es ≡ true) → (b && no_lock_failed es) ≡ true
    go true h f = f h
    go false h f = clash h

clean-last : (es : List Entry) (e : Entry) → no_lock_failed (es ++ (e ∷ [])) ≡ true → lock_failed e ≡ false
unfolding no_lock_failed
clean-last [] e h = go (lock_failed e) h
  where
    go : (b : Bool) → (not b && true) ≡ true → b ≡ false
    go true h = clash h
    go false h = refl
clean-last (d ∷ es) e h = go (not (lock_failed d)) h (clean-last es e)
  where
    go : (b : Bool) → (b && no_lock_failed (es ++ (e ∷ []))) ≡ true → (no_lock_failed (es ++ (e ∷ [])) ≡ true → lock_failed e ≡ false) → lock_failed e ≡ false
    go true h f = f h
    go false h f = clash h

clean-prefix : (es fs : List Entry) → Prefix es fs → no_lock_failed fs ≡ true → no_lock_failed es ≡ true
clean-prefix es fs (rest, e) h = clean-append es rest (subst⁻¹ (λ (ds : List Entry). no_lock_failed ds ≡ true) (sym e) h)

-- the two runs, side by side

abbrev Tied : State → State → Type 0
Tied s t = t ≡ redrawn counting s

abbrev Clean : State → Type 0
Clean s = no_lock_failed s.log ≡ true

module _ (plan : Plan) (named : plan.locks ≡ by_name) where
  names-right : (y : Sync) (h : ℕ) (rest : List ℕ) (s : State) → Clean (closed (sync_move plan y h rest s)) → misnames (worker_at s h).held y ≡ false
  unfolding apply
  names-right y h rest s clean = go (misnames (worker_at s h).held y) refl
    where
      entry : Entry
      entry = entry_of s h y (rule_of plan (queue_of s) (fate_in s) (worker_at s h).held y).outcome

      right : lock_failed entry ≡ false
      right = clean-last s.log entry (subst⁻¹ (λ (es : List Entry). no_lock_failed es ≡ true) (sym (closed-keeps (sync_move plan y h rest s)).1) clean)

      go : (b : Bool) → misnames (worker_at s h).held y ≡ b → b ≡ false
      go true bad = sym (failed-shown plan named y h s bad) ∙ right
      go false ok = refl

  ruled-counted : (s : State) (w : ℕ) → Clean (move plan s w) → (y : Sync) → step_at plan w (worker_at s w).place ≡ sync y → (worker_at s w).arrived ≡ true
      → misnames (worker_at s w).held y ≡ false
  unfolding move
  ruled-counted s w clean y step here = names-right y w (behind s.list) s (rw (step, here) at clean)

  move-counted : (s : State) (w : ℕ) → Clean (move plan s w) → move (counting_locks plan) (redrawn counting s) w ≡ redrawn counting (move plan s w)
  move-counted s w clean =
      move-redrawn counting plan by_count s w (λ o e. own-marked s.memory o (worker_at s w))
      (λ y e b. same-rule plan named (queue_of s) (fate_in s) (worker_at s w).held y (ruled-counted s w clean y e b))
      refl

  naming-laws : SideBySide (machine plan) (machine (counting_locks plan)) Tied Clean
  naming-laws =
      record {
        able = λ s t w tied. ap (λ (u : State). can u w) tied ∙ same-can counting s w;
        moved = λ s t w tied c clean. ap (λ (u : State). move (counting_locks plan) u w) tied ∙ move-counted s w clean;
        before = λ s w c clean. clean-prefix s.log (move plan s w).log (grows plan s w) clean;
      }

  -- the state by count is the state by names, a mark in the place of each lock
  played-counted : (memory turns : List ℕ) → no_lock_failed (played_from plan memory turns).log ≡ true
      → played_from (counting_locks plan) memory turns ≡ redrawn counting (played_from plan memory turns)
  played-counted memory turns clean =
      same-play (counting_locks plan) (start (counting_locks plan) memory) turns
      ∙ side_by_side naming-laws (start plan memory) (start (counting_locks plan) memory) turns (start-redrawn counting plan by_count memory)
      (subst⁻¹ (λ (s : State). Clean s) (sym (same-play plan (start plan memory) turns)) clean)
      ∙ ap (redrawn counting) (sym (same-play plan (start plan memory) turns))

-- what the buffers show

same-buffers : (s : State) → buffers_of (redrawn counting s) ≡ buffers_of s
unfolding lent_log
same-buffers s = rw (same-report counting s)

-- the claim, of the definitions and of the bytes that an accepted run leaves

module _ (plan : Plan) (named : plan.locks ≡ by_name) (sound : Sound plan) (memory turns : List ℕ) (clean : no_lock_failed (round_run plan memory).log ≡ true) where
  side : played_from (counting_locks plan) memory turns ≡ redrawn counting (played_from plan memory turns)
  side = played-counted plan named memory turns (clean-prefix _ _ (demand3 plan sound memory turns).log_prefix clean)

  as-by-count : AsByCount plan memory turns
  as-by-count =
      record {
        memory = sym (ap (λ (s : State). s.memory) side);
        log = sym (ap (λ (s : State). s.log) side);
        report = sym (ap report_bytes side ∙ same-report counting (played_from plan memory turns));
      }

  bytes-by-count : LeftAsByCount plan memory turns (buffers_of (played_from plan memory turns))
  bytes-by-count = sym (ap buffers_of side ∙ same-buffers (played_from plan memory turns))

-- the log shows the two failures and nothing else as failed locks, whatever step of whatever worker comes next
pub failures-logged : (file : List ℕ) → check file ≡ accepted → (memory turns : List ℕ) (h : ℕ) (y : Sync) → FailureLogged (plan_of file) (played_from (plan_of file) memory turns) h y
failures-logged file ok memory turns h y = split (misnames (worker_at s h).held y)
    (λ bad. failed-shown plan (file-named file) y h s bad ∙ sym bad)
    (λ ok'. only-failed-shown plan (file-named file) y h s ((played-bounded plan (sound-file file ok) memory turns).held h) ok' ∙ sym ok')
  where
    plan : Plan
    plan = plan_of file

    s : State
    s = played_from plan memory turns

-- for every file that the check accepts, every starting memory and every list of turns
pub by-count-file : (file : List ℕ) → check file ≡ accepted → (memory turns : List ℕ) → no_lock_failed (round_run (plan_of file) memory).log ≡ true
    → AsByCount (plan_of file) memory turns
by-count-file file ok memory turns clean = as-by-count (plan_of file) (file-named file) (sound-file file ok) memory turns clean

pub by-count-bytes : (file turns : List ℕ) (b : Buffers) → run_verdict file turns b ≡ accepted → no_lock_failed (round_run (plan_of file) b.memory).log ≡ true
    → LeftAsByCount (plan_of file) b.memory turns (run file turns b).buffers
unfolding run
by-count-bytes file turns b ok clean =
    subst⁻¹ (λ (v : Verdict). LeftAsByCount plan b.memory turns (reply_of v (played_from plan b.memory turns) b).buffers) ok
    (bytes-by-count plan (file-named file) (sound-file file (run-file file turns b ok)) b.memory turns clean)
  where
    plan : Plan
    plan = plan_of file
