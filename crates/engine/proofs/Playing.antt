-- Turns, one after another.
use Prim.Native.Nat.{ℕ, ◌<◌, ◌≤◌}
use native.Mathlib.Decide.{dec_lt}
use native.Mathlib.Omega.{arith}
use mathlib.Core.Bool.{Bool, true, false, cond}
use mathlib.Core.Path.{◌≡◌, refl, sym, ap, ◌∙◌, subst⁻¹}
use mathlib.Core.List.{List, [], ◌∷◌, ◌++◌}
use lib.Dec.{eqb}
use lib.ListN.{get_or}
use Rattle.protocol.specs.Format.{workers_limit, Plan, up_to, plan_of}
use Rattle.protocol.specs.Rounds.{State, member}
use Rattle.protocol.specs.Turns.{workers_of, start, can, move, turn, play}
use Rattle.protocol.specs.Calls.{played_from}
use Rattle.protocol.proofs.Accepted.{sound-file}
use Rattle.protocol.proofs.Obeys.{play-inv, play-append}
use Rattle.protocol.proofs.Counting.{member-some, occurs-above}
use Rattle.protocol.proofs.Laws.{start-inv}
use Rattle.protocol.proofs.Sound.{Sound}
use Rattle.format.specs.Fates.{code_going}
use Rattle.queue.specs.List.{Below}
use Rattle.rules.proofs.Found.{below-keep}
use Rattle.engine.specs.declared.state.Schedule.{Schedule}
use Rattle.engine.specs.Kept.{Kept}
use Rattle.engine.specs.Refines.{Refines}
use Rattle.engine.specs.Moving.{Able}
use Rattle.engine.specs.Turning.{Named, awake}
use Rattle.engine.proofs.Facts as facts

-- one turn more
one_more : (plan : Plan) (memory played : List ℕ) (w : ℕ) → played_from plan memory (played ++ (w ∷ [])) ≡ turn plan (played_from plan memory played) w
unfolding play
one_more plan memory played w = play-append plan (start plan memory) played (w ∷ [])

-- the first round's list
pub up-to-below : {n : ℕ} {workers : List ℕ} → n ≤ workers_limit → workers ≡ up_to n → Below workers_limit workers
up-to-below {n} {workers} l e w m = go (dec_lt w workers_limit)
  where
    go : Dec (w < workers_limit) → w < workers_limit
    go (yes k) = k
    go (no nk) = absurd (omega (arith, member-some w (up_to n) (ap (λ (ws : List ℕ). member w ws) (sym e) ∙ m), occurs-above n 0 w (omega arith)))

pub awake-below : {n : ℕ} (fates : List ℕ) {workers : List ℕ} → n ≤ workers_limit → workers ≡ awake n fates → Below workers_limit workers
awake-below {n} fates l e =
    subst⁻¹ (λ (ws : List ℕ). Below workers_limit ws) e (below-keep workers_limit (λ w. eqb (get_or fates w 0) code_going) (up_to n) (up-to-below l refl))

-- the turns of an accepted file
module _ {file sizes firsts turns : List ℕ} (p : Named file sizes firsts turns) where
  pub plan-sound : Sound (plan_of file)
  plan-sound = sound-file file p.laid.ok

  -- those that were played
  module _ (start played : List ℕ) where
    abbrev s : State
    s = played_from (plan_of file) start played

    pub moves-fit : {t : Schedule} {k : Kept} → Refines (workers_of (plan_of file)) s t k → t.counts.moves ≤ 2064
    moves-fit shows = facts.moves-fit plan-sound (play-inv (plan_of file) plan-sound _ played (start-inv (plan_of file) start plan-sound)) shows

    -- the next turn, by worker w
    module _ (w : ℕ) (small : w < workers_limit) {t : Schedule} {k : Kept} (shows : Refines (workers_of (plan_of file)) s t k) where
      pub can-same : {b : Bool} → get_or k.can w false ≡ b → can s w ≡ b
      can-same e = sym (shows.lists.able w small) ∙ e

      -- it moves
      module _ (e : get_or k.can w false ≡ true) where
        unfoldable pub able-here : Able file sizes firsts w t k
        able-here = record { laid = p.laid; start = start; turns = played; refines = shows; able = can-same e }

        pub moved : {t' : Schedule} {k' : Kept} → Refines (workers_of (plan_of file)) (move (plan_of file) s w) t' k'
            → Refines (workers_of (plan_of file)) (played_from (plan_of file) start (played ++ (w ∷ []))) t' k'
        unfolding turn
        moved {t'} {k'} x =
            subst⁻¹ (λ (q : State). Refines (workers_of (plan_of file)) q t' k')
            (one_more (plan_of file) start played w ∙ ap (λ (b : Bool). cond b (move (plan_of file) s w) s) (can-same e)) x

      -- or it passes
      pub passed : get_or k.can w false ≡ false → Refines (workers_of (plan_of file)) (played_from (plan_of file) start (played ++ (w ∷ []))) t k
      unfolding turn
      passed e =
          subst⁻¹ (λ (q : State). Refines (workers_of (plan_of file)) q t k)
          (one_more (plan_of file) start played w ∙ ap (λ (b : Bool). cond b (move (plan_of file) s w) s) (can-same e)) shows
