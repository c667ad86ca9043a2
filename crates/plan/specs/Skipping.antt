-- What the test of the skips goes by: where each worker's steps begin.
use Rattle.std.specs.Prelude.{ℕ, ◌+◌, ◌<◌, ◌≤◌, Bool, ◌&&◌, ◌≡◌, List, ltb, get_or}
use Rattle.protocol.specs.Format as format
use Rattle.plan.specs.Reading.{before, RulesHold}
use Rattle.plan.specs.declared.decode.Record.{Record}

-- record i skips past the next worker's first step
abbrev pub too_far : List ℕ → ℕ → Record → Bool
too_far firsts i r = format.is_skip r.op && ltb (get_or firsts (r.worker + 1) 0) (i + 1 + r.number)

-- all records are read, and the firsts are known
pub record SkipChecking (file : List ℕ) (count : ℕ) (firsts : List ℕ) : Type 0 where
  pub least : 1 ≤ count
  pub rules : RulesHold file count
  pub right : (w : ℕ) → w < format.workers_limit + 1 → get_or firsts w 0 ≡ format.first_in (before file count) w
