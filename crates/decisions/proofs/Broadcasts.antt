-- A broadcast is carried out: its parts leave what the definitions' ruling says, whether it gives up the token or runs on.
-- Assumes nothing.
use Prim.Native.Nat.{ℕ, ◌≤◌}
use native.Mathlib.Omega.{arith}
use mathlib.Core.Path.{◌≡◌, refl, ap, sym, ◌∙◌}
use mathlib.Core.List.{List, [], ◌∷◌, ◌++◌, append-nil}
use lib.Dec.{eqb}
use lib.ListN.{length, get_or, set, drop}
use Rattle.protocol.specs.Rounds as rounds
use Rattle.protocol.specs.Rounds.{without, broadcast_rule}
use Rattle.locks.specs.Set.{Shows}
use Rattle.queue.specs.List.{set_all}
use Rattle.queue.proofs.Picked.{length-keep}
use Rattle.decisions.specs.declared.broadcast.Roused.{Roused}
use Rattle.decisions.specs.declared.decision.Decision.{Decision}
use Rattle.decisions.specs.declared.lists.Lists.{Lists}
use Rattle.rules.specs.declared.ruling.Uncommitted.TheVariants.{Committed}
use Rattle.rules.specs.Codes.{condition_code}
use Rattle.rules.specs.Rules.{found}
use Rattle.rules.proofs.Rulings.{held_none, held_some}
use Rattle.decisions.specs.Waking.{AllWoken, HolderLists}
use Rattle.decisions.specs.Deciding.{CarriedOut}
use Rattle.decisions.proofs.Freed.{settled}

-- no more are woken than wait
pub few-woken : {waiting fates : List ℕ} {code : ℕ} {r : Roused} {fates' : List ℕ} → AllWoken waiting fates code r fates' → length r.woken ≤ length waiting
few-woken {waiting} {fates} {code} all = omega (arith, ap length all.woken, length-keep (λ w. eqb (get_or fates w 0) code) waiting)

abbrev decision : ℕ → ℕ → List ℕ → List ℕ → List ℕ → Decision
decision held outcome list next waiting =
    record { bytes = Committed; held = held; outcome = outcome; lists = record { list = list; next = next; waiting = waiting } }

-- who waits on a condition
abbrev queued_on : Lists → List ℕ → ℕ → List ℕ
queued_on lists fates condition = found fates lists.waiting (condition_code condition)

-- the ruling, by where the holder goes
abbrev going : List ℕ → List ℕ → rounds.Goes → rounds.Ruling
going held queued goes = rounds.ruling rounds.committed held goes queued [] (length queued)

module _ {lists : Lists} {fates : List ℕ} (condition : ℕ) {h : ℕ} (b : HolderLists h lists fates) {r : Roused} {fates' : List ℕ}
    (all : AllWoken lists.waiting fates (condition_code condition) r fates') where
  freed : fates' ≡ set_all 0 (queued_on lists fates condition ++ []) fates
  freed = all.going ∙ ap (λ (ws : List ℕ). set_all 0 ws fates) (sym (append-nil (queued_on lists fates condition)))

  wait-on : r.left ≡ without (queued_on lists fates condition ++ []) lists.waiting ++ []
  wait-on = rw (append-nil (queued_on lists fates condition), append-nil (without (queued_on lists fates condition) lists.waiting)) all.left

  pub gives_up : {held : ℕ} → held ≡ 0 → (locks : List ℕ) → Shows held locks
      → CarriedOut lists fates (broadcast_rule (queued_on lists fates condition) locks) h
      (decision held (length r.woken) (r.woken ++ drop 1 lists.list) (lists.next ++ (h ∷ [])) r.left) (set fates' h 0)
  gives_up {held} e locks s =
      rw (held_none locks s e)
      record {
        bytes = refl;
        held = s;
        outcome = ap length all.woken;
        moved = record { list = rw all.woken; next = refl; waiting = wait-on };
        settled = settled fates (going locks (queued_on lists fates condition) rounds.gives) h fates' 0 b.size b.holder freed refl;
      }

  pub runs_on_with_locks : {held : ℕ} → (held ≡ 0 → ⊥) → (locks : List ℕ) → Shows held locks
      → CarriedOut lists fates (broadcast_rule (queued_on lists fates condition) locks) h
      (decision held (length r.woken) (h ∷ (r.woken ++ drop 1 lists.list)) lists.next r.left) (set fates' h 0)
  runs_on_with_locks {held} n locks s =
      rw (held_some locks s n)
      record {
        bytes = refl;
        held = s;
        outcome = ap length all.woken;
        moved = record { list = rw all.woken; next = sym (append-nil lists.next); waiting = wait-on };
        settled = settled fates (going locks (queued_on lists fates condition) rounds.keeps) h fates' 0 b.size b.holder freed refl;
      }
