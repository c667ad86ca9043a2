-- What the holder's step finds of the lists, and what waking all who wait on a condition ensures.
use Rattle.std.specs.Prelude.{ℕ, ◌+◌, ◌≤◌, ◌<◌, ◌≡◌, List, length}
use Rattle.protocol.specs.Format.{workers_limit}
use Rattle.protocol.specs.Rounds.{without}
use Rattle.protocol.specs.Demands.{occurs}
use Rattle.queue.specs.List.{Below, set_all}
use Rattle.decisions.specs.declared.broadcast.Roused.{Roused}
use Rattle.decisions.specs.declared.lists.Lists.{Lists}
use Rattle.rules.specs.Rules.{found}

-- workers, each of whom waits once
pub record Rousing (waiting : List ℕ) : Type 0 where
  pub below : Below workers_limit waiting
  pub once : (w : ℕ) → occurs w waiting ≤ 1

-- those with this code as their fate are woken, in the order in which they waited, and the others wait on
pub record AllWoken (waiting fates : List ℕ) (code : ℕ) (r : Roused) (fates' : List ℕ) : Type 0 where
  pub woken : r.woken ≡ found fates waiting code
  pub left : r.left ≡ without (found fates waiting code) waiting
  pub going : fates' ≡ set_all 0 (found fates waiting code) fates

-- the holder's lists, with at most eight workers between them
pub record HolderLists (h : ℕ) (lists : Lists) (fates : List ℕ) : Type 0 where
  pub holder : h < workers_limit
  pub waiting : Rousing lists.waiting
  pub first : 0 < length lists.list
  pub total : length lists.list + length lists.next + length lists.waiting ≤ workers_limit
  pub size : length fates ≡ workers_limit
