-- What an admitted run goes in with.
use Prim.Native.Nat.{ℕ, ◌<◌}
use native.Mathlib.Omega.{arith}
use mathlib.Core.Bool.{false}
use mathlib.Core.Path.{◌≡◌, sym}
use mathlib.Core.List.{List}
use borrow.Author.Tests.{ltb-false, leb-false}
use lib.Dec.{leb, ltb}
use lib.ListN.{length, get_or}
use Rattle.protocol.specs.Format.{plan_of}
use Rattle.protocol.specs.Refusals.{accepted, check}
use Rattle.protocol.specs.Turns.{workers_of}
use Rattle.protocol.specs.Calls.{Buffers, misfit, turns_limit, names_nobody}
use Rattle.protocol.specs.WellFormed.{Fitting}
use Rattle.protocol.proofs.Accepted.{sound-file}
use Rattle.protocol.proofs.Counting.{clash}
use Rattle.protocol.proofs.Covered.{any_none}
use Rattle.protocol.proofs.FirstDue.{fitting}
use Rattle.plan.specs.Checking.{LaidOut}
use Rattle.plan.specs.declared.check.Layout.{Layout}
use Rattle.plan.specs.declared.answer.Refused.{Refused}
use Rattle.admission.specs.declared.run.Lengths.{Lengths}
use Rattle.engine.specs.Moving.{Laid}
use Rattle.admission.specs.Run.{lengths_of, Admits}
use Rattle.std.specs.Prelude.{Result, Ok}
use Rattle.tampermauve.specs.Run.{Performing}
use Rattle.admission.proofs.Admitting.{plan-workers}
use Rattle.tampermauve.proofs.Ran.{Cleared, passed}

-- where no turn names nobody, each names a worker below n
turn_below : (n : ℕ) (turns : List ℕ) (i : ℕ) → names_nobody n turns ≡ false → i < length turns → get_or turns i 0 < n
turn_below n turns i e h = leb-false n (get_or turns i 0) (any_none (λ w. leb n w) turns 0 e i h)

pub laid_out : {file : List ℕ} {l : Layout} → LaidOut file l → check file ≡ accepted → Laid file l.sizes l.firsts
laid_out l ok = record { ok = ok; sizes_right = l.sizes; firsts_right = l.firsts }

-- what is admitted by lengths, where they are those of the buffers
pub by-lengths : {file turns : List ℕ} {l : Lengths} (b : Buffers) {a : Result Layout Refused} → l.memory ≡ length b.memory → l.log ≡ length b.log
    → l.report ≡ length b.report → l.work ≡ length b.work → Admits file turns l a → Admits file turns (lengths_of b) a
by-lengths b memory log report work h = record { verdict = rw (sym memory, sym log, sym report, sym work) h.verdict; layout = h.layout }

module _ (file turns : List ℕ) (b : Buffers) (l : Layout) (h : Admits file turns (lengths_of b) (Ok l)) where
  tested : Cleared (misfit b) (ltb turns_limit (length turns)) (check file) (names_nobody (workers_of (plan_of file)) turns)
  tested = passed file turns b (sym h.verdict)

  pub buffers-fit : Fitting b
  buffers-fit = fitting b tested.buffers

  pub file-ok : check file ≡ accepted
  file-ok = tested.file

  pub performing : Performing file l turns false b.memory b.log b.report b.work
  performing = record {
    playing =
        record {
          named =
              record {
                laid = laid_out h.layout file-ok;
                below = λ i inside. omega (arith, turn_below (workers_of (plan_of file)) turns i tested.known inside, (sound-file file file-ok).workers);
                short = ltb-false turns_limit (length turns) tested.short;
              };
          stretches = λ e. clash e;
          workers = plan-workers file h.layout file-ok;
          fates = h.layout.fates;
          bytes = record { memory_length = buffers-fit.memory; work_length = buffers-fit.work };
          room = buffers-fit.log;
        };
    size = buffers-fit.report;
  }
