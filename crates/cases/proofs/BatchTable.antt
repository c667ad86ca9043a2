-- Document 02, Four: calls with several plans, each with the bytes that it leaves, worked out by hand.
use Prim.Native.Nat.{ℕ, ◌*◌}
use mathlib.Core.Bool.{cond}
use mathlib.Core.List.{List, [], ◌∷◌, ◌++◌}
use lib.Dec.{eqb}
use lib.ListN.{length, replicate}
use Rattle.protocol.specs.Report.{four_bytes}
use Rattle.protocol.specs.Calls.{memory_length, log_length, report_length, work_length}
use Rattle.protocol.specs.Batch.{Batch, BatchReply, run_all}
use Rattle.protocol.proofs.Table.{Case, listing, case, rec, plan_rec, stores, entry, exits, report, both, one, small, sum, padded, race, waiter}

-- a plan that runs as its case has it, or a file with the number that it is refused by
pub data PlanCase : Type 0 where
  runs : Case → PlanCase
  refuses : List ℕ → ℕ → PlanCase

abbrev file_of : PlanCase → List ℕ
file_of (runs c) = c.file
file_of (refuses file f) = file

-- bytes of no meaning, in all that is lent but the memory of a plan that runs
abbrev stale : ℕ → List ℕ
stale size = replicate size 170

abbrev memory_lent : PlanCase → List ℕ
memory_lent (runs c) = padded memory_length c.lent
memory_lent (refuses file f) = stale memory_length

abbrev memory_left : PlanCase → List ℕ
memory_left (runs c) = padded memory_length c.memory
memory_left (refuses file f) = stale memory_length

abbrev log_left : PlanCase → List ℕ
log_left (runs c) = padded log_length c.log
log_left (refuses file f) = stale log_length

abbrev report_left : PlanCase → List ℕ
report_left (runs c) = c.report
report_left (refuses file f) = stale report_length

abbrev answer_left : PlanCase → List ℕ
answer_left (runs c) = 0 ∷ []
answer_left (refuses file f) = f ∷ []

-- "back to back"
unfoldable pub joined : (PlanCase → List ℕ) → List PlanCase → List ℕ
joined bytes [] = []
joined bytes (p ∷ ps) = bytes p ++ joined bytes ps

pub record BatchCase : Type 0 where
  pub plans : List PlanCase
  pub count : ℕ
  pub lengths : List ℕ
  -- the bytes of the work buffer, and what each of them is behind the call
  pub room : ℕ
  pub work : ℕ
  pub returned : ℕ

unfoldable pub batch_lent : BatchCase → Batch
batch_lent c =
    record {
      memories = joined memory_lent c.plans;
      logs = stale (log_length * length c.plans);
      reports = stale (report_length * length c.plans);
      answers = stale (length c.plans);
      work = stale c.room;
    }

unfoldable pub batch_left : BatchCase → Batch
batch_left c =
    record {
      memories = joined memory_left c.plans;
      logs = joined log_left c.plans;
      reports = joined report_left c.plans;
      answers = joined answer_left c.plans;
      work = replicate c.room c.work;
    }

-- what the definitions yield, and what they should: a call that is refused leaves all as it was
unfoldable pub yields_all : BatchCase → BatchReply
yields_all c = run_all c.count (joined file_of c.plans) c.lengths (batch_lent c)

unfoldable pub expects_all : BatchCase → BatchReply
expects_all c = record { returned = c.returned; batch = cond (eqb c.returned 0) (batch_left c) (batch_lent c) }

-- the length of a file
abbrev length_of : PlanCase → List ℕ
length_of p = four_bytes (length (file_of p))

-- an accepted call, and one that is refused
abbrev each : List PlanCase → ℕ → BatchCase
each ps work = record { plans = ps; count = length ps; lengths = joined length_of ps; room = work_length; work = work; returned = 0 }

abbrev amiss : List PlanCase → ℕ → List ℕ → ℕ → ℕ → BatchCase
amiss ps count lengths room f = record { plans = ps; count = count; lengths = lengths; room = room; work = 170; returned = f }

-- cases 1, 2, 3 and 6
abbrev racing : PlanCase
racing = runs (case race [] listing (1 ∷ 0 ∷ 1 ∷ 0 ∷ []) (exits 1) (report 1 2 12 1 2 (both 1 1) (small 2)))

abbrev merging : PlanCase
merging = runs (case (plan_rec 2 ++ stores 0 256 ++ stores 1 1) [] listing (1 ∷ 1 ∷ []) (exits 1) (report 1 2 8 1 2 (both 1 1) (sum 1 1 0 0)))

abbrev differing : PlanCase
differing = runs (case (plan_rec 2 ++ stores 0 7 ++ stores 1 5) (5 ∷ []) listing (7 ∷ []) (exits 1) (report 1 2 8 1 2 (both 1 1) (small 7)))

abbrev waiting : PlanCase
waiting = runs (case waiter [] listing [] (entry 1 0 32 0 1 ++ entry 1 0 34 0 255) (report 2 1 3 1 2 (one 3) (small 0)))

-- a step of worker 5, where there are two: 5 at record 1
abbrev strayed : PlanCase
strayed = refuses (plan_rec 2 ++ rec 5 16 0 0) 5

unfoldable pub batches : List BatchCase
batches =
    -- one plan
    each (racing ∷ []) 0
    -- "one separate call a plan, in order": each from its own memory, one of them stuck
    ∷ each (merging ∷ differing ∷ waiting ∷ []) 0
    -- "0, or the refusal number, and that plan's own parts are untouched"; "a refused plan's record index isn't given": 5, and not 5 + 256
    ∷ each (merging ∷ strayed ∷ differing ∷ []) 0
    -- no plan is accepted: work is as lent. A file of length 0 is that plan's refusal, not the call's.
    ∷ each (refuses [] 1 ∷ refuses (plan_rec 9) 3 ∷ []) 170
    -- "15, a count outside 1 to 40": none, and 41
    ∷ amiss [] 0 [] work_length 15
    ∷ amiss (racing ∷ []) 41 (length_of racing) work_length 15
    -- "lengths that don't add up to the bytes lent": one byte too few; and 2³² − 1 with one byte too many, whose sum is 2³² too great
    ∷ amiss (racing ∷ []) 1 (four_bytes 62) work_length 15
    ∷ amiss (waiting ∷ waiting ∷ []) 2 (255 ∷ 255 ∷ 255 ∷ 255 ∷ four_bytes 43) work_length 15
    -- "or another buffer not count times its unit"
    ∷ amiss (racing ∷ []) 2 (length_of racing ++ four_bytes 0) work_length 15
    -- "another length of it is 11, tested first"
    ∷ amiss [] 0 [] 32767 11
    ∷ []
