-- One plan of a call with many: what its run to the end takes, and that it leaves what its separate call leaves.
use Prim.Native.Nat.{ℕ, ◌+◌, ◌-◌, ◌*◌, ◌/◌, ◌%◌, ◌<◌}
use native.Mathlib.Omega.{arith}
use mathlib.Core.Bool.{Bool, true, false, cond}
use mathlib.Core.Path.{◌≡◌, refl, sym, ap, ◌∙◌}
use mathlib.Core.List.{List}
use borrow.Author.Tests.{le-ltb}
use lib.Dec.{ltb}
use lib.ListN.{length, get_or}
use Rattle.protocol.specs.Format.{workers_limit}
use Rattle.protocol.specs.Refusals.{accepted, number_of, check}
use Rattle.protocol.proofs.Numbered.{numbered}
use Rattle.plan.specs.Answer.{refusal_of, refused_as}
use Rattle.plan.specs.declared.answer.Refused.{Refused}
use Rattle.protocol.specs.Rounds.{State}
use Rattle.protocol.specs.Report.{report_bytes}
use Rattle.protocol.specs.Calls.{Buffers, Reply, lent_log}
use Rattle.protocol.specs.Batch.{answer_of}
use Rattle.protocol.specs.WellFormed.{Fitting}
use Rattle.protocol.proofs.Demand3.{demand3-file}
use Rattle.protocol.proofs.Batches.{separate-accepted, separate-refused}
use Rattle.plan.specs.Checking.{LaidOut}
use Rattle.plan.specs.declared.check.Layout.{Layout}
use Rattle.engine.specs.Turning.{stretch, cycle_turns, Stretches}
use Rattle.tampermauve.specs.Run.{Performing, Performed}
use Rattle.tampermauve.specs.All.{turn_at, Stretched, RanAlone}
use Rattle.admission.proofs.Admitting.{plan-workers}
use Rattle.tampermauve.proofs.Entering.{laid_out}

-- each turn names a worker that some plan may have, and each stretch begins with its worker
turn_below : (i : ℕ) → i < 2 * cycle_turns → turn_at i < workers_limit
turn_below i h = go (ltb i cycle_turns) refl
  where
    go : (b : Bool) → ltb i cycle_turns ≡ b → cond b (i % workers_limit) ((i - cycle_turns) / stretch) < workers_limit
    go true e = omega arith
    go false e = omega arith

turn-first : (w : ℕ) → turn_at (cycle_turns + stretch * w) ≡ w
turn-first w =
    ap (λ (b : Bool). cond b ((cycle_turns + stretch * w) % workers_limit) ((cycle_turns + stretch * w - cycle_turns) / stretch)) (le-ltb (cycle_turns + stretch * w) cycle_turns (omega arith))
    ∙ (let e : (cycle_turns + stretch * w - cycle_turns) / stretch ≡ w = omega arith in e)

stretches : {turns : List ℕ} → Stretched turns → Stretches turns
stretches s =
    record { size = s.size; first = λ w h. s.each (cycle_turns + stretch * w) (omega (arith, s.size)) ∙ turn-first w }

below : {turns : List ℕ} → Stretched turns → (i : ℕ) → i < length turns → get_or turns i 0 < workers_limit
below s i h = omega (arith, s.each i h, turn_below i (omega (arith, s.size)))

module _ (file : List ℕ) (b : Buffers) (fits : Fitting b) where
  pub performs : {turns : List ℕ} {l : Layout} → Stretched turns → check file ≡ accepted → LaidOut file l
      → Performing file l turns true b.memory b.log b.report b.work
  performs s ok l = record {
    playing =
        record {
          named = record { laid = laid_out l ok; below = below s; short = omega (arith, s.size) };
          stretches = λ e. stretches s;
          workers = plan-workers file l ok;
          fates = l.fates;
          bytes = record { memory_length = fits.memory; work_length = fits.work };
          room = fits.log;
        };
    size = fits.report;
  }

  -- refused: nothing is touched, and the answer is the number without its index
  pub refused-alone : (e : Refused) → refused_as e ≡ check file → RanAlone file b (number_of (refusal_of e.refusal)) b.memory b.log b.report b.work
  refused-alone e bad =
      let f = refusal_of e.refusal in
      let same = sym (separate-refused file b fits f e.index (sym bad)) in
      let alone : number_of f ≡ (number_of f + 256 * e.index) % 256 = omega (arith, (numbered f).1) in
      record {
        answered = alone ∙ ap (λ (r : Reply). answer_of r.returned) same;
        same_memory = ap (λ (r : Reply). r.buffers.memory) same;
        same_log = ap (λ (r : Reply). r.buffers.log) same;
        same_report = ap (λ (r : Reply). r.buffers.report) same;
        untouched = λ n. refl;
      }

  -- accepted: some turns have ended the plan, so demand 3 makes it what the round-by-round run leaves, as the separate call does
  pub accepted-alone : {turns memory log report work : List ℕ} → check file ≡ accepted → Performed file turns true b.memory memory log report
      → RanAlone file b 0 memory log report work
  accepted-alone ok d =
      let same = sym (separate-accepted file b fits ok) in
      let end = (demand3-file file ok b.memory d.played).same_end (d.ends refl) in
      record {
        answered = ap (λ (r : Reply). answer_of r.returned) same;
        same_memory = d.same_memory ∙ (ap (λ (s : State). s.memory) end ∙ ap (λ (r : Reply). r.buffers.memory) same);
        same_log = d.same_log ∙ (ap (λ (s : State). lent_log s) end ∙ ap (λ (r : Reply). r.buffers.log) same);
        same_report = d.same_report ∙ (ap (λ (s : State). report_bytes s) end ∙ ap (λ (r : Reply). r.buffers.report) same);
        untouched = λ n. absurd (n refl);
      }
