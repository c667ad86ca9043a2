-- What the moves between the three lists take and ensure.
use Rattle.std.specs.Prelude.{ℕ, ◌+◌, ◌≤◌, ◌<◌, false, ◌≡◌, List, ◌++◌, length, drop}
use Rattle.protocol.specs.Format.{workers_limit}
use Rattle.protocol.specs.Rounds as rounds
use Rattle.protocol.specs.Rounds.{stays_in, joins_next, joins_waiting, member, without}
use Rattle.queue.specs.List.{Below}
use Rattle.decisions.specs.declared.lists.Lists.{Lists}
use Rattle.rules.specs.declared.ruling.Moves.{Moves}
use Rattle.rules.specs.declared.ruling.Moves.TheVariants.{Wakes, Joins, Starts}
use Rattle.rules.specs.Rules.{found, woken_of, moved_of}

-- the list of a round, whose first is the holder, with room for a woken worker
pub record Relisting (list : List ℕ) (moves : Moves) (h : ℕ) : Type 0 where
  pub holder : h < 16
  pub held : 0 < length list
  pub fits : length list + length (woken_of moves) ≤ workers_limit
  pub woken : (w : ℕ) → moves ≡ Wakes w → w < 16

-- those who join the next list are those who wait with the key as their fate's code, and a sleeper that is started does not wait
pub record Parting (waiting : List ℕ) (moves : Moves) (fates : List ℕ) (code : ℕ) : Type 0 where
  pub below : Below workers_limit waiting
  pub all : (ws : List ℕ) → moves ≡ Joins ws → ws ≡ found fates waiting code
  pub away : (w : ℕ) → moves ≡ Starts w → member w waiting ≡ false

-- the three lists have at most eight workers between them, and with those whom the ruling moves there is room for them in this list and in the next
pub record ListsMoving (lists : Lists) (moves : Moves) (h : ℕ) (fates : List ℕ) (code : ℕ) : Type 0 where
  pub holder : h < workers_limit
  pub held : 0 < length lists.list
  pub total : length lists.list + length lists.next + length lists.waiting ≤ workers_limit
  pub room : length lists.list + length lists.next + length (moved_of moves) ≤ workers_limit
  -- a worker that is woken or started is a digit, as all of a queue are
  pub woken : (w : ℕ) → moves ≡ Wakes w → w < 16
  pub started : (w : ℕ) → moves ≡ Starts w → w < 16
  pub leaving : Parting lists.waiting moves fates code

-- the lists after a ruling, as `apply` has them
pub record ListsMoved (before : Lists) (r : rounds.Ruling) (h : ℕ) (after : Lists) : Type 0 where
  pub list : after.list ≡ stays_in r.goes h ++ (r.wakes ++ drop 1 before.list)
  pub next : after.next ≡ before.next ++ (r.joins ++ joins_next r.goes h)
  pub waiting : after.waiting ≡ without (r.wakes ++ r.joins) before.waiting ++ joins_waiting r.goes h
