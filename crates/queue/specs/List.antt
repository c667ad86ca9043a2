-- Lists of workers.
use Rattle.std.specs.Prelude.{ℕ, ◌≤◌, ◌<◌, true, ◌≡◌, List, [], ◌∷◌, Option, IfSome, length, set}
use Rattle.std.specs.Iterator.{YieldsFirst}
use Rattle.protocol.specs.Format.{workers_limit}
use Rattle.protocol.specs.Rounds.{member}

-- every worker of a list is below a number
abbrev pub Below : ℕ → List ℕ → Type 0
Below n workers = (w : ℕ) → member w workers ≡ true → w < n

-- entries, where each of these workers has x
abbrev pub set_all : {A : Type 0} → A → List ℕ → List A → List A
set_all x [] entries = entries
set_all x (w ∷ ws) entries = set_all x ws (set entries w x)

-- an iterator over a queue has all of its workers to give, of whom there are at most eight
pub record AllWorkers (queue left : List ℕ) : Type 0 where
  pub same : left ≡ queue
  pub few : length queue ≤ workers_limit

-- the next of a queue's workers is the first of those left, and a digit
pub record YieldsWorker (left : List ℕ) (next : Option ℕ) (after : List ℕ) : Type 0 where
  pub first : YieldsFirst (λ workers. workers) left next after
  pub digit : IfSome next (λ w. w < 16)
