-- Turns that pass.
use Rattle.std.specs.Prelude.{ℕ, ◌≤◌, ◌<◌, Bool, false, ◌≡◌, List, length, get_or}
use Rattle.protocol.specs.Calls.{turns_limit}
use Rattle.protocol.specs.Format.{workers_limit}

-- each of these turns names a worker
abbrev pub NamesWorkers : List ℕ → Type 0
NamesWorkers turns = (i : ℕ) → i < length turns → get_or turns i 0 < workers_limit

-- a place in a list of turns, each of which names a worker
pub record Passing (turns : List ℕ) (from : ℕ) : Type 0 where
  pub within : from ≤ length turns
  pub short : length turns ≤ turns_limit
  pub named : NamesWorkers turns

-- from one place to before another each turn is by a worker that cannot move
pub record Passed (turns : List ℕ) (can : List Bool) (from to : ℕ) : Type 0 where
  pub onward : from ≤ to
  pub within : to ≤ length turns
  pub idle : (i : ℕ) → from ≤ i → i < to → get_or can (get_or turns i 0) false ≡ false

-- from one place to before another no turn names a worker outside these
pub record Spanned (turns : List ℕ) (from to least most : ℕ) : Type 0 where
  pub low : (i : ℕ) → from ≤ i → i < to → least ≤ get_or turns i 0
  pub high : (i : ℕ) → from ≤ i → i < to → get_or turns i 0 ≤ most
  pub below : most < workers_limit
