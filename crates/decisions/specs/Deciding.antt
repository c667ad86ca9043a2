-- What deciding the holder's step takes and ensures.
use Rattle.std.specs.Prelude.{ℕ, ◌+◌, ◌≤◌, ◌≡◌, List, length}
use Rattle.protocol.specs.Format.{workers_limit}
use Rattle.protocol.specs.Rounds as rounds
use Rattle.locks.specs.Set.{Shows}
use Rattle.decisions.specs.declared.decision.Decision.{Decision}
use Rattle.decisions.specs.declared.lists.Lists.{Lists}
use Rattle.rules.specs.Codes.{uncommitted_of}
use Rattle.rules.specs.Rules.{called_by, Asking, RuledBy}
use Rattle.decisions.specs.Moves.{ListsMoved}
use Rattle.decisions.specs.Fates.{FatesSettled}
use Rattle.decisions.specs.Waking.{HolderLists}

-- a synchronising step, and lists with room
pub record Deciding (op number h held : ℕ) (lists : Lists) (fates : List ℕ) : Type 0 where
  pub asked : Asking op number held lists.waiting fates
  pub holding : HolderLists h lists fates
  -- a sleeper that the step starts is in none of the lists
  pub total :
      length lists.list + length lists.next + length lists.waiting + called_by op number fates ≤ workers_limit

-- a ruling of the definitions, as a decision, with the lists and the fates after it
pub record CarriedOut (lists : Lists) (fates : List ℕ) (is : rounds.Ruling) (h : ℕ) (d : Decision) (fates' : List ℕ) : Type 0 where
  pub bytes : uncommitted_of d.bytes ≡ is.bytes
  pub held : Shows d.held is.held
  pub outcome : d.outcome ≡ is.outcome
  pub moved : ListsMoved lists is h d.lists
  pub settled : FatesSettled fates is h fates'

-- the ruling of the definitions for a holder of these locks is carried out
pub record Decided (op number h : ℕ) (locks sizes : List ℕ) (lists : Lists) (fates : List ℕ) (d : Decision) (fates' : List ℕ) : Type 0 where
  pub is : rounds.Ruling
  pub ruled : RuledBy op number locks sizes lists.waiting fates is
  pub carried : CarriedOut lists fates is h d fates'
