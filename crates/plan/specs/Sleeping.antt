-- What the reading of the sleep records takes and finds.
use Rattle.std.specs.Prelude.{ℕ, ◌<◌, ◌≤◌, Bool, true, false, ◌||◌, ◌≡◌, List, ltb, length, get_or}
use Rattle.protocol.specs.Format as format
use Rattle.protocol.specs.Refusals as protocol
use Rattle.protocol.specs.Rounds.{member}
use Rattle.format.specs.Fates.{code_going, code_asleep}
use Rattle.plan.specs.Answer.{record_of, refused_as}
use Rattle.plan.specs.declared.answer.Refused.{Refused}
use Rattle.plan.specs.Reading.{file_record, before, verdict_from, RulesHold}
use Rattle.plan.specs.declared.decode.Record.{Record}

-- whether a sleep record is refused in a plan of n workers, where the next sleeper is at least low and there is no step before it
abbrev pub refuses_sleep : ℕ → ℕ → Record → Bool
refuses_sleep low n r = ltb r.worker low || protocol.wrong_sleep n (record_of r)

-- the code of a worker's fate at first
abbrev pub first_code : Bool → ℕ
first_code true = code_asleep
first_code false = code_going

-- the codes of the fates that these sleepers make
pub record FirstFates (sleepers fates : List ℕ) : Type 0 where
  pub size : length fates ≡ format.workers_limit
  pub right : (w : ℕ) → w < format.workers_limit → get_or fates w 0 ≡ first_code (member w sleepers)

-- the records of a plan of n workers up to the sleep records
pub record SleepersComing (file : List ℕ) (count n start : ℕ) : Type 0 where
  pub least : 1 ≤ start
  pub most : start ≤ count
  pub workers : format.workers_in (before file start) ≡ n
  pub few : n ≤ format.workers_limit
  pub rules : RulesHold file start
  pub no_step : protocol.any_of format.is_step (before file start) ≡ false
  pub no_sleeper : protocol.any_of format.is_sleep (before file start) ≡ false
  pub no_barrier : start < count → format.is_barrier (file_record file start) ≡ false

-- what stands before the steps, and the first of them
pub record HeadRead (file : List ℕ) (count start next : ℕ) : Type 0 where
  pub rules : RulesHold file next
  pub no_step : protocol.any_of format.is_step (before file next) ≡ false
  pub sizes : (b : ℕ) → format.size_in (before file next) b ≡ format.size_in (before file start) b
  -- a barrier record there would stand behind a sleep record
  pub no_barrier : next < count → format.is_barrier (file_record file next) ≡ true → protocol.any_of format.is_sleep (before file next) ≡ true
  pub no_sleep : next < count → format.is_sleep (file_record file next) ≡ false

-- the reading of the sleep records ends with the refusal of a record
pub record SleepersRefused (file : List ℕ) (count start : ℕ) (e : Refused) : Type 0 where
  pub least : start ≤ e.index
  pub most : e.index < count
  pub verdict : verdict_from file count start ≡ refused_as e

-- the sleep records are read, up to record `next`
pub record SleepersRead (file : List ℕ) (count start next : ℕ) (fates : List ℕ) : Type 0 where
  pub least : start ≤ next
  pub most : next ≤ count
  pub verdict : verdict_from file count next ≡ verdict_from file count start
  pub head : HeadRead file count start next
  pub first : FirstFates (format.sleepers_in (before file next)) fates
