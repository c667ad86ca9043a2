-- The machine of the definitions, and that it obeys the laws of the general theorem; what follows for lists of turns.
use Prim.Native.Nat.{ℕ}
use native.Mathlib.Omega.{arith}
use mathlib.Core.Path.{◌≡◌, refl, sym, ap, ◌∙◌, subst⁻¹}
use mathlib.Core.Bool.{true}
use mathlib.Core.List.{List, [], ◌∷◌, ◌++◌}
use lib.ListN.{take, drop, take-append-drop}
use Rattle.protocol.specs.Format.{Plan}
use Rattle.protocol.specs.Rounds.{Entry, State}
use Rattle.protocol.specs.Turns.{workers_of, can, move, turn, play, moving_turns, ended}
use Rattle.protocol.proofs.Sound.{Sound}
use Rattle.protocol.proofs.Confluence.{Machine, Laws, play as played, moving_turns as moved, play-kept, ended-stays}
use Rattle.protocol.proofs.Invariant.{measure, Inv}
use Rattle.protocol.proofs.Laws.{kept, falls, counts, grows, stays, commute, end-stops, goes_on}

abbrev pub machine : Plan → Machine State Entry
machine plan =
    record {
      can = can;
      move = move plan;
      ended = ended;
      measure = measure plan;
      tally = λ s. s.moves;
      log = λ s. s.log;
    }

-- the turns of the definitions are the turns of the machine
pub same-play : (plan : Plan) (s : State) (ts : List ℕ) → play plan s ts ≡ played (machine plan) s ts
unfolding turn play played
same-play plan s [] = refl
same-play plan s (w ∷ ws) = same-play plan (turn plan s w) ws

pub same-moving : (plan : Plan) (s : State) (ts : List ℕ) → moving_turns plan s ts ≡ moved (machine plan) s ts
unfolding turn moving_turns moved
same-moving plan s [] = refl
same-moving plan s (w ∷ ws) = omega (arith, same-moving plan (turn plan s w) ws)

pub play-append : (plan : Plan) (s : State) (ts us : List ℕ) → play plan s (ts ++ us) ≡ play plan (play plan s ts) us
unfolding play
play-append plan s [] us = refl
play-append plan s (w ∷ ws) us = play-append plan (turn plan s w) ws us

-- the laws of this machine
pub laws-hold : (plan : Plan) → Sound plan → Laws (machine plan) (Inv plan) (workers_of plan)
laws-hold plan sound =
    record {
      kept = kept plan sound;
      falls = falls plan sound;
      counts = λ s w i c. counts plan s w;
      grows = λ s w i c. grows plan s w;
      stays = λ s v w i ne p q. stays plan s v w i p q ne;
      commute = λ s v w i ne p q. commute plan s v w i p q ne;
      end-stops = λ s w i e. end-stops s w e;
      goes_on = λ s i e. goes_on plan s i e;
    }

-- every list of turns keeps the invariant
module _ (plan : Plan) (sound : Sound plan) (s : State) where
  pub play-inv : (turns : List ℕ) → Inv plan s → Inv plan (play plan s turns)
  play-inv turns i =
      subst⁻¹ (λ (t : State). Inv plan t) (same-play plan s turns)
      (play-kept (machine plan) (Inv plan) (workers_of plan) (laws-hold plan sound) s i turns)

  -- after the end every turn passes
  pub rest-passes : (turns : List ℕ) (i : ℕ) → Inv plan s → ended (play plan s (take i turns)) ≡ true → play plan s turns ≡ play plan s (take i turns)
  rest-passes turns i inv e =
      ap (λ (ts : List ℕ). play plan s ts) (sym (take-append-drop i turns))
      ∙ play-append plan s (take i turns) (drop i turns)
      ∙ same-play plan (play plan s (take i turns)) (drop i turns)
      ∙ ended-stays (machine plan) (Inv plan) (workers_of plan) (laws-hold plan sound) (play plan s (take i turns)) (play-inv (take i turns) inv) e (drop i turns)
