-- What the parts of the check find: the records up to an index, and what is left of the check from there.
use Rattle.std.specs.Prelude.{ℕ, ◌-◌, ◌*◌, ◌<◌, ◌≤◌, Bool, false, ◌||◌, ◌≡◌, List, [], ◌∷◌, ltb, length, get_or}
use Rattle.protocol.specs.Format as format
use Rattle.protocol.specs.Refusals as protocol
use Rattle.plan.specs.Answer.{record_of, refused_as}
use Rattle.plan.specs.declared.answer.Refused.{Refused}
use Rattle.plan.specs.declared.barriers.Barriers.{Barriers}
use Rattle.plan.specs.declared.decode.Record.{Record}

-- the file of records of seven bytes each
unfoldable pub file_of : List (List ℕ) → List ℕ
file_of [] = []
file_of (r ∷ rs) =
    get_or r 0 0 ∷ (get_or r 1 0 ∷ (get_or r 2 0 ∷ (get_or r 3 0 ∷ (get_or r 4 0 ∷ (get_or r 5 0 ∷ (get_or r 6 0 ∷ file_of rs))))))

abbrev pub file_record : List ℕ → ℕ → format.Record
file_record file i = format.record_from file (format.record_length * i)

-- the records before record i, and those from it on
abbrev pub before : List ℕ → ℕ → List format.Record
before file i = format.records_from file i 0

abbrev pub verdict_from : List ℕ → ℕ → ℕ → protocol.Verdict
verdict_from file count i = protocol.check_records (before file i) (format.records_from file (count - i) i)

-- the rule of each record before record i holds
abbrev pub RulesHold : List ℕ → ℕ → Type 0
RulesHold file i = (k : ℕ) → k < i → protocol.record_rule (before file k) (file_record file k) ≡ protocol.holds

-- whether a barrier record is refused, where the next barrier's number is at least low and neither a sleep record nor a step stands before it
abbrev pub refuses_barrier : ℕ → Record → Bool
refuses_barrier low r = ltb r.register low || protocol.wrong_barrier (record_of r)

-- the records before record i are no steps, and give the sizes
pub record HeadSoFar (file : List ℕ) (i : ℕ) (sizes : List ℕ) : Type 0 where
  pub rules : RulesHold file i
  pub no_step : protocol.any_of format.is_step (before file i) ≡ false
  pub size : length sizes ≡ format.barrier_count
  pub right : (b : ℕ) → b < format.barrier_count → get_or sizes b 0 ≡ format.size_in (before file i) b

-- the reading of the barrier records ends with the refusal of a record: those before it are no steps and no sleep records, and give the sizes
pub record BarriersRefused (file : List ℕ) (count : ℕ) (e : Refused) : Type 0 where
  pub least : 1 ≤ e.index
  pub most : e.index < count
  pub verdict : verdict_from file count 1 ≡ refused_as e
  pub sizes : List ℕ
  pub head : HeadSoFar file e.index sizes
  pub no_sleeper : protocol.any_of format.is_sleep (before file e.index) ≡ false

-- the barrier records are read, and what is left of the check is the same behind them
pub record BarriersRead (file : List ℕ) (count : ℕ) (r : Barriers) : Type 0 where
  pub least : 1 ≤ r.next
  pub most : r.next ≤ count
  pub verdict : verdict_from file count r.next ≡ verdict_from file count 1
  pub head : HeadSoFar file r.next r.sizes
  pub no_sleeper : protocol.any_of format.is_sleep (before file r.next) ≡ false
  pub no_barrier : r.next < count → format.is_barrier (file_record file r.next) ≡ false
