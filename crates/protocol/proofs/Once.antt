-- Five: "the set of its locks". Among those that a worker holds no lock stands twice, so their number is the size of a set.
-- Assumes nothing.
use Prim.Native.Nat.{ℕ, ◌-◌, ◌≤◌}
use native.Mathlib.Omega.{arith}
use native.Mathlib.Decide.{ℕ_discrete}
use mathlib.Core.Bool.{Bool, true, false, cond, not}
use mathlib.Core.Path.{◌≡◌, refl, subst⁻¹}
use mathlib.Core.List.{List, [], ◌∷◌}
use lib.Dec.{eqb, ltb}
use lib.ListN.{length, get_or}
use Rattle.protocol.specs.Format.{Sync, lock, unlock, wait, signal, broadcast, barrier, start_worker, exit, by_name, Plan, plan_of}
use Rattle.protocol.specs.Steps.{QueueName, at_barrier, Fate, Worker, new_worker}
use Rattle.protocol.specs.Rounds.{State, Ruling, member, remove, is_asleep, rule_of}
use Rattle.protocol.specs.Turns.{start, can, move, turn, play}
use Rattle.protocol.specs.Calls.{played_from}
use Rattle.protocol.specs.Demands.{occurs, HeldOnce}
use Rattle.protocol.proofs.Counting.{occurs-same, occurs-other, member-none}
use Rattle.protocol.proofs.Locks.{file-named}
use Rattle.protocol.proofs.OwnMoves.{own-leaves}
use Rattle.protocol.proofs.EachWorker.{KeptBy, all_moved, all_first}

abbrev Once : List ℕ → Type 0
Once ks = (k : ℕ) → occurs k ks ≤ 1

-- one lock more, one less

with-lock : (k : ℕ) (ks : List ℕ) → member k ks ≡ false → Once ks → Once (k ∷ ks)
with-lock k ks new once j =
    elim (ℕ_discrete j k) [
      | yes e ↦ rw e (omega (arith, occurs-same k ks, member-none k ks new))
      | no ne ↦ omega (arith, occurs-other j k ks ne, once j)
    ]

without-lock : (j k : ℕ) (ks : List ℕ) → occurs j (remove k ks) ≤ occurs j ks
unfolding remove occurs
without-lock j k [] = omega arith
without-lock j k (i ∷ is) = go (eqb k i) (without-lock j k is)
  where
    go : (b : Bool) → occurs j (remove k is) ≤ occurs j is → occurs j (cond b is (i ∷ remove k is)) ≤ occurs j (i ∷ is)
    go true h = omega arith
    go false h = omega arith

-- the rules

module _ (plan : Plan) (named : plan.locks ≡ by_name) (queue : QueueName → List ℕ) (fates : ℕ → Fate) (held : List ℕ) (once : Once held) where
  by-test : (b : Bool) (r r' : Ruling) → (b ≡ true → Once r.held) → (b ≡ false → Once r'.held) → Once (cond b r r').held
  by-test true r r' f g = f refl
  by-test false r r' f g = g refl

  kept : {A : Type 0} → A → Once held
  kept e = once

  ruled-once : (y : Sync) → Once (rule_of plan queue fates held y).held
  unfolding rule_of
  ruled-once (lock k) = rw named (by-test (member k held) _ _ kept (λ e. with-lock k held e once))
  ruled-once (unlock k) = rw named (by-test (not (member k held)) _ _ kept (λ e j. omega (arith, without-lock j k held, once j)))
  ruled-once (wait c) = by-test (eqb (length held) 0) _ _ kept kept
  ruled-once (signal c) = once
  ruled-once (broadcast c) = once
  ruled-once (barrier b) =
      by-test (not (eqb (length held) 0)) _ _ kept (λ e. by-test (ltb (length (queue (at_barrier b))) (get_or plan.sizes b 0 - 1)) _ _ kept kept)
  ruled-once (start_worker w) = by-test (is_asleep (fates w)) _ _ kept kept
  ruled-once exit = by-test (not (eqb (length held) 0)) _ _ kept kept

-- every move, every list of turns

abbrev HoldsOnce : Worker → Type 0
HoldsOnce v = Once v.held

module _ (plan : Plan) (named : plan.locks ≡ by_name) where
  once-kept : KeptBy plan HoldsOnce
  once-kept =
      record {
        owns = λ memory o v once. subst⁻¹ Once (own-leaves memory o v).held once;
        arrives = λ v once. once;
        fates = λ f v once. once;
        ruled = λ queue fates v y once. ruled-once plan named queue fates v.held once y;
      }

  play-once : (s : State) (turns : List ℕ) → HeldOnce s → HeldOnce (play plan s turns)
  unfolding play turn
  play-once s [] all = all
  play-once s (w ∷ ws) all = play-once (cond (can s w) (move plan s w) s) ws (go (can s w))
    where
      go : (b : Bool) → HeldOnce (cond b (move plan s w) s)
      go true = all_moved once-kept s w all
      go false = all

none_yet : HoldsOnce new_worker
unfolding new_worker occurs
none_yet k = omega arith

-- whatever a file's turns are
pub held-once : (file memory turns : List ℕ) → HeldOnce (played_from (plan_of file) memory turns)
held-once file memory turns =
    play-once (plan_of file) (file-named file) (start (plan_of file) memory) turns
    (all_first (once-kept (plan_of file) (file-named file)) none_yet memory)
