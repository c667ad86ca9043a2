-- Turns that pass or make an own step.
use Prim.Native.Nat.{ℕ, zero, suc, ◌+◌, ◌-◌, ◌≤◌, ◌<◌}
use native.Mathlib.Omega.{arith}
use native.Mathlib.Decide.{ℕ_discrete}
use native.Mathlib.Nat.{add-zero}
use native.Mathlib.Numerals.{add-one}
use mathlib.Core.Bool.{Bool, true, false}
use mathlib.Core.Path.{◌≡◌, sym, ap, ◌∙◌, subst, subst⁻¹}
use mathlib.Core.List.{List, [], ◌∷◌, ◌++◌, append_assoc, append-nil}
use lib.ListN.{length, get_or, take, drop}
use lib.Seq.{slice, slice_empty, take-suc, drop-append-le, length-take-le}
use Rattle.protocol.specs.Format.{synchronises, plan_of}
use Rattle.protocol.specs.Turns.{workers_of}
use Rattle.protocol.specs.Calls.{played_from}
use Rattle.plan.specs.declared.decode.Record.{Record}
use Rattle.worker.specs.declared.Worker.{Worker}
use Rattle.token.specs.Passes.{Passed}
use Rattle.moves.specs.Moves.{fetched_as, OwnMoved}
use Rattle.engine.specs.declared.state.Schedule.{Schedule}
use Rattle.engine.specs.Kept.{Kept, private_of}
use Rattle.engine.specs.Refines.{Refines}
use Rattle.engine.specs.Moving.{Able}
use Rattle.engine.specs.Turning.{Turning, moves_as}
use Rattle.engine.proofs.Playing.{moves-fit, able-here, moved, passed}
use Rattle.engine.proofs.OwnSimulates.{own_kept, own-simulates}

-- one turn more is played
next-turn : (before turns : List ℕ) (from i : ℕ) → from ≤ i → i < length turns
    → before ++ slice from (i + 1) turns ≡ (before ++ slice from i turns) ++ (get_or turns i 0 ∷ [])
next-turn before turns from i f h =
    ap (λ (ts : List ℕ). before ++ ts) last ∙ sym (append_assoc before (slice from i turns) (get_or turns i 0 ∷ []))
  where
    last : slice from (i + 1) turns ≡ slice from i turns ++ (get_or turns i 0 ∷ [])
    last =
        ap (λ (ts : List ℕ). drop from ts) (ap (λ (n : ℕ). take n turns) (add-one i) ∙ take-suc turns i 0 h)
        ∙ drop-append-le from (take i turns) (get_or turns i 0 ∷ []) (omega (arith, length-take-le i turns (omega arith)))

-- what stands after the turns up to i, so many of which have moved
pub record SoFar (file firsts turns : List ℕ) (from made : ℕ) (k : List ℕ → List ℕ → Kept) (i moves : ℕ) (k' : List ℕ → List ℕ → Kept) : Type 0 where
  pub forward : from ≤ i
  pub within : i ≤ length turns
  pub refines :
      (h : Turning file firsts turns from made k)
      → Refines (workers_of (plan_of file)) (played_from (plan_of file) h.start (h.before ++ slice from i turns)) (moves_as h.schedule moves) (k' h.fates h.log)

module _ {file firsts turns : List ℕ} {from made : ℕ} {k : List ℕ → List ℕ → Kept} where
  pub none_yet : Turning file firsts turns from made k → SoFar file firsts turns from made k from made k
  none_yet p =
      record {
        forward = omega arith;
        within = p.within;
        refines = λ h.
            subst⁻¹ (λ (us : List ℕ). Refines (workers_of (plan_of file)) (played_from (plan_of file) h.start us) (moves_as h.schedule made) (k h.fates h.log))
            (ap (λ (ts : List ℕ). h.before ++ ts) (slice_empty from turns) ∙ append-nil h.before)
            (subst (λ (n : ℕ). Refines (workers_of (plan_of file)) (played_from (plan_of file) h.start h.before) (moves_as h.schedule n) (k h.fates h.log))
            h.counted h.refines);
      }

  module _ {i moves : ℕ} {k' : List ℕ → List ℕ → Kept} (so : SoFar file firsts turns from made k i moves k') where
    pub moves-small : Turning file firsts turns from made k → moves ≤ 2064
    moves-small h = moves-fit h.named h.start _ (so.refines h)

    -- a turn more, whatever it does
    onto : (h : Turning file firsts turns from made k) → i < length turns → {t : Schedule} {k'' : Kept}
        → Refines (workers_of (plan_of file)) (played_from (plan_of file) h.start ((h.before ++ slice from i turns) ++ (get_or turns i 0 ∷ []))) t k''
        → Refines (workers_of (plan_of file)) (played_from (plan_of file) h.start (h.before ++ slice from (i + 1) turns)) t k''
    onto h l {t} {k''} x =
        subst⁻¹ (λ (us : List ℕ). Refines (workers_of (plan_of file)) (played_from (plan_of file) h.start us) t k'')
        (next-turn h.before turns from i so.forward l) x

    one_passes : i < length turns → ((fates log : List ℕ) → get_or (k' fates log).can (get_or turns i 0) false ≡ false)
        → SoFar file firsts turns from made k (i + 1) moves k'
    one_passes l idle =
        record {
          forward = let f = so.forward in omega arith;
          within = omega arith;
          refines = λ h. onto h l (passed h.named h.start _ (get_or turns i 0) (h.named.below i l) (so.refines h) (idle h.fates h.log));
        }

    -- a turn that moves
    module _ (l : i < length turns) (can : (fates log : List ℕ) → get_or (k' fates log).can (get_or turns i 0) false ≡ true) where
      pub here : (h : Turning file firsts turns from made k) → Able file h.sizes firsts (get_or turns i 0) (moves_as h.schedule moves) (k' h.fates h.log)
      here h = able-here h.named h.start _ (get_or turns i 0) (h.named.below i l) (so.refines h) (can h.fates h.log)

      -- an own step, however the code counts it as a move
      pub moves-on : {r : Record} {v : Worker} {copied : List Bool} {work : List ℕ} {count : ℕ}
          → ((fates log : List ℕ)
          → (r ≡ fetched_as file (get_or firsts (get_or turns i 0) 0) (get_or firsts (get_or turns i 0 + 1) 0) (get_or (k' fates log).places (get_or turns i 0) 0))
          × OwnMoved (private_of (k' fates log) (get_or turns i 0)) r (get_or turns i 0) (k' fates log).memory (k' fates log).copied (k' fates log).work copied work v)
          → synchronises r.op ≡ false
          → count ≡ moves + 1
          → SoFar file firsts turns from made k (i + 1) count (λ fates log. own_kept (k' fates log) (get_or turns i 0) v copied work)
      unfolding here able-here
      moves-on {r} {v} {copied} {work} {count} step owns q =
          record {
            forward = let f = so.forward in omega arith;
            within = omega arith;
            refines = λ h.
                onto h l
                (moved h.named h.start _ (get_or turns i 0) (h.named.below i l) (so.refines h) (can h.fates h.log)
                (rw q (own-simulates (here h) (step h.fates h.log).0 owns (step h.fates h.log).1)));
          }

  -- turns that pass, so many in a row
  stretch : {i moves : ℕ} {k' : List ℕ → List ℕ → Kept} → SoFar file firsts turns from made k i moves k' → (n : ℕ) → i + n ≤ length turns
      → ((j : ℕ) → i ≤ j → j < i + n → (fates log : List ℕ) → get_or (k' fates log).can (get_or turns j 0) false ≡ false)
      → SoFar file firsts turns from made k (i + n) moves k'
  stretch {i} so zero l idle = rw (add-zero i) so
  stretch {i} so (suc n) l idle =
      let e : i + suc n ≡ (i + n) + 1 = omega arith in
      rw e (one_passes (stretch so n (omega arith) (λ j a b. idle j a (omega arith))) (omega arith) (idle (i + n) (omega arith) (omega arith)))

  pub passes : {i moves : ℕ} {k' : List ℕ → List ℕ → Kept} → SoFar file firsts turns from made k i moves k'
      → {can : List Bool} {j : ℕ} → ((fates log : List ℕ) → (k' fates log).can ≡ can) → get_or can (get_or turns i 0) false ≡ false
      → Passed turns can (i + 1) j → SoFar file firsts turns from made k j moves k'
  passes {i} so {can} {j} same e p =
      let on = p.onward in
      let within = p.within in
      let far : i + (j - i) ≡ j = omega arith in
      rw (← far)
      (stretch so (j - i) (omega arith) (λ n a b fates log. ap (λ (m : List Bool). get_or m (get_or turns n 0) false) (same fates log) ∙ elim (ℕ_discrete n i) [
        | yes q ↦ ap (λ (u : ℕ). get_or can (get_or turns u 0) false) q ∙ e
        | no other ↦ p.idle n (omega arith) (omega arith)
      ]))
