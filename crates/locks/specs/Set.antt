-- The number that stands for a set of locks.
use Rattle.std.specs.Prelude.{ℕ, ◌+◌, ◌/◌, ◌%◌, ◌^◌, ◌≤◌, true, ◌≡◌, List, [], ◌∷◌, length}
use Rattle.protocol.specs.Format.{steps_limit, lock_limit}
use Rattle.protocol.specs.Rounds.{member}
use Rattle.protocol.specs.Demands.{occurs}

-- a weight for each of the locks, together
unfoldable pub weigh : (ℕ → ℕ) → List ℕ → ℕ
weigh f [] = 0
weigh f (k ∷ ks) = f k + weigh f ks

-- a mark at the lock's place, and one more for each above the marks
abbrev pub each_lock : ℕ
each_lock = 65536

abbrev pub lock_weight : ℕ → ℕ
lock_weight k = 2 ^ k + each_lock

-- the number is the weight of the locks; its marks say which are held, and what stands above them how many
pub record Shows (n : ℕ) (locks : List ℕ) : Type 0 where
  pub total : n ≡ weigh lock_weight locks
  pub marks : (k : ℕ) → k ≤ lock_limit → n / 2 ^ k % 2 ≡ occurs k locks
  pub size : n / each_lock ≡ length locks

-- the number shows locks, and no more of them than a worker has steps
pub record Held (n : ℕ) : Type 0 where
  pub locks : List ℕ
  pub shown : Shows n locks
  pub few : length locks ≤ steps_limit

-- the lock is one of those that the number shows
pub record Holding (n lock : ℕ) : Type 0 where
  pub known : lock ≤ lock_limit
  pub locks : List ℕ
  pub shown : Shows n locks
  pub here : member lock locks ≡ true
