-- What settling the fates takes and ensures.
use Rattle.std.specs.Prelude.{ℕ, cond, ◌≡◌, List, ◌++◌, eqb, length, get_or}
use Rattle.protocol.specs.Format.{workers_limit}
use Rattle.protocol.specs.Rounds as rounds
use Rattle.protocol.specs.Rounds.{member, fate_after}
use Rattle.rules.specs.Codes.{fate_code}

-- the holder has its new fate, those whom the step moves are going, and the others stay as they were
pub record FatesSettled (before : List ℕ) (is : rounds.Ruling) (h : ℕ) (after : List ℕ) : Type 0 where
  pub size : length after ≡ workers_limit
  pub code :
      (w : ℕ)
      → get_or after w 0
      ≡ cond (eqb w h) (fate_code (fate_after is.goes)) (cond (member w (is.wakes ++ is.joins)) 0 (get_or before w 0))
