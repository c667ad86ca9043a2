-- Who can move, by the marks that the code keeps.
use Rattle.std.specs.Prelude.{ℕ, ◌+◌, ◌-◌, ◌≤◌, ◌<◌, Bool, true, false, cond, ◌≡◌, List, Option, Some, None, MatchOption, eqb, length, get_or, set}
use Rattle.protocol.specs.Format.{workers_limit}
use Rattle.queue.specs.List.{set_all}
use Rattle.token.specs.declared.Round.{Round}

-- one more has arrived; the last one's arrival lets the first move
abbrev pub arrived_can : ℕ → ℕ → ℕ → List Bool → List Bool
arrived_can first away w can =
    cond (eqb (away - 1) 0) (set (set can w false) first true) (set can w false)

unfoldable pub raised : List ℕ → List Bool → List Bool
raised = set_all true

-- the next round begins: the next list is its list, and none of those in it has arrived
pub record NewRound (next : List ℕ) (h rounds : ℕ) (can : List Bool) (r : Round) (can' : List Bool) : Type 0 where
  pub here : r.begun ≡ Some next
  pub behind : r.away ≡ length next
  pub counted : r.rounds ≡ rounds + 1
  pub marks : can' ≡ raised next (set can h false)

-- or the round goes on with the lists as they are, and another holder or the same
pub record SameRound (first h rounds : ℕ) (can : List Bool) (r : Round) (can' : List Bool) : Type 0 where
  pub here : r.begun ≡ None
  pub behind : r.away ≡ 0
  pub counted : r.rounds ≡ rounds
  pub marks : can' ≡ set (set can h false) first true

-- by the first in the list, if there is one
abbrev pub TurnedOver : Option ℕ → List ℕ → ℕ → ℕ → List Bool → Round → List Bool → Type 0
TurnedOver first next h rounds can r can' =
    MatchOption first (NewRound next h rounds can r can') (λ w. SameRound w h rounds can r can')

-- the first worker that can move, or as many as there may be if none can
pub record FirstAble (can : List Bool) (w : ℕ) : Type 0 where
  pub within : w ≤ workers_limit
  pub able : w < workers_limit → get_or can w false ≡ true
  pub idle : (v : ℕ) → v < w → get_or can v false ≡ false
