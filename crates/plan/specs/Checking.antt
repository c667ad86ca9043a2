-- What the check of a file answers.
use Rattle.std.specs.Prelude.{ℕ, ◌+◌, ◌<◌, ◌≡◌, List, length, get_or, Result, Ok, Err, IfOk}
use Rattle.protocol.specs.Format.{barrier_count, workers_limit, records, workers_in, size_in, first_in, sleepers_in}
use Rattle.protocol.specs.Refusals as protocol
use Rattle.plan.specs.Answer.{verdict_of}
use Rattle.plan.specs.Sleeping.{FirstFates}
use Rattle.plan.specs.declared.answer.Refused.{Refused}
use Rattle.plan.specs.declared.check.Head.{Head}
use Rattle.plan.specs.declared.check.Layout.{Layout}

-- the layout of a file's records
pub record LaidOut (file : List ℕ) (l : Layout) : Type 0 where
  pub workers : l.workers ≡ workers_in (records file)
  pub eight : length l.sizes ≡ barrier_count
  pub sizes : (b : ℕ) → b < barrier_count → get_or l.sizes b 0 ≡ size_in (records file) b
  pub nine : length l.firsts ≡ workers_limit + 1
  pub firsts : (w : ℕ) → w < workers_limit + 1 → get_or l.firsts w 0 ≡ first_in (records file) w
  pub fates : FirstFates (sleepers_in (records file)) l.fates

-- the verdict is the definition's; the layout of an accepted file is that of its records
pub record CheckedAs (file : List ℕ) (r : Result Layout Refused) : Type 0 where
  pub verdict : verdict_of r ≡ protocol.check file
  pub layout : IfOk r (LaidOut file)

-- what is read of a file, with the two arrays that are read beside it, as one layout
abbrev pub whole : Result Head Refused → (firsts fates : List ℕ) → Result Layout Refused
whole (Ok head) firsts fates = Ok (record { firsts = firsts; workers = head.workers; sizes = head.sizes; fates = fates })
whole (Err refused) firsts fates = Err refused
