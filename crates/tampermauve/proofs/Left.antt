-- What a run leaves in the lent buffers is what the state at its end gives.
use Prim.Native.Nat.{ℕ, ◌-◌, ◌*◌, ◌<◌}
use mathlib.Core.Bool.{false}
use mathlib.Core.Path.{◌≡◌, refl, sym, ap, ◌∙◌, subst⁻¹}
use mathlib.Core.List.{List, ◌++◌}
use native.Mathlib.Omega.{arith}
use lib.ListN.{length, get_or, replicate}
use Rattle.protocol.specs.Format.{plan_of}
use Rattle.protocol.specs.Refusals.{accepted, check}
use Rattle.protocol.specs.Rounds.{State}
use Rattle.protocol.specs.Turns.{workers_of, start}
use Rattle.protocol.specs.Sum.{sum_of}
use Rattle.protocol.specs.Report.{entry_length, log_bytes, report_bytes}
use Rattle.protocol.specs.Calls.{memory_length, log_length, report_length, work_length, buffers_of, lent_log, played_from}
use Rattle.protocol.specs.Demands.{SumShown}
use Rattle.protocol.proofs.Sound.{Sound}
use Rattle.protocol.proofs.Accepted.{sound-file}
use Rattle.protocol.proofs.Invariant.{Inv}
use Rattle.protocol.proofs.Laws.{start-inv}
use Rattle.protocol.proofs.Bounds.{Bounded, bounded}
use Rattle.protocol.proofs.Obeys.{play-inv}
use Rattle.protocol.proofs.Sums.{sum-small, sum-shown}
use Rattle.protocol.proofs.Sizes.{length-log}
use Rattle.journal.specs.Bytes.{report_of}
use Rattle.engine.specs.Turning.{Over}
use Rattle.engine.specs.declared.state.Played.{Played}
use Rattle.ending.specs.Ending.{end_by, Closing, Closed}
use Rattle.tampermauve.specs.Run.{lent, Performed}
use Rattle.tampermauve.proofs.Reported.{report-same}

module _ (file turns start-memory : List ℕ) (ok : check file ≡ accepted) (p : Played) (n : ℕ) (right : n ≡ workers_of (plan_of file))
    {memory log work : List ℕ} (o : Over file turns start-memory p memory log work) where
  abbrev state : State
  state = played_from (plan_of file) start-memory turns

  sound : Sound (plan_of file)
  sound = sound-file file ok

  inv : Inv (plan_of file) (played_from (plan_of file) start-memory turns)
  inv = play-inv (plan_of file) sound (start (plan_of file) start-memory) turns (start-inv (plan_of file) start-memory sound)

  bounds : Bounded (plan_of file) (played_from (plan_of file) start-memory turns)
  bounds = bounded (plan_of file) _ sound inv

  pub closes : {report : List ℕ} → length report ≡ report_length → Closing p.schedule.counts n log report
  closes size =
      let s = o.refines in
      record {
        workers = omega (arith, right, sound.workers);
        counts =
            record {
              moves = omega (arith, s.moves, bounds.moves_fit);
              rounds = omega (arith, s.rounds, bounds.moves_fit, bounds.rounds);
              records = omega (arith, s.log.count, bounds.records_fit);
            };
        room = omega (arith, s.log.count, s.log.size, bounds.records_fit);
        size = size;
      }

  module _ {log' report' : List ℕ} (left : Closed p.schedule.lists.list p.schedule.counts p.fates n p.schedule.sum log log' report') where
    pub log-same : log' ≡ lent_log (played_from (plan_of file) start-memory turns)
    unfolding lent_log
    log-same =
        left.logged
        ∙ (ap (λ (bytes : List ℕ). bytes ++ replicate (length log - entry_length * p.schedule.counts.records) 0) o.refines.log.bytes
        ∙ ap (λ (k : ℕ). log_bytes state.log ++ replicate k 0) rest)
      where
        rest : length log - entry_length * p.schedule.counts.records ≡ log_length - length (log_bytes state.log)
        rest = omega (arith, o.refines.log.size, o.refines.log.count, length-log state.log)

    pub report-left : report' ≡ report_bytes (played_from (plan_of file) start-memory turns)
    report-left =
        left.reported
        ∙ (ap (λ (ws : List ℕ). said ws p.schedule.counts.moves p.schedule.counts.rounds p.schedule.counts.records p.schedule.sum) o.refines.lists.list
        ∙ (ap (λ (k : ℕ). said state.list k p.schedule.counts.rounds p.schedule.counts.records p.schedule.sum) (sym o.refines.moves)
        ∙ (ap (λ (k : ℕ). said state.list state.moves k p.schedule.counts.records p.schedule.sum) (sym o.refines.rounds)
        ∙ (ap (λ (k : ℕ). said state.list state.moves state.rounds k p.schedule.sum) (sym o.refines.log.count)
        ∙ (ap (λ (k : ℕ). said state.list state.moves state.rounds (length state.log) k) o.refines.sum
        ∙ report-same state n p.fates (inv.core.size ∙ sym right) (λ w h. o.refines.lists.fates w (omega (arith, right, h))))))))
      where
        said : List ℕ → ℕ → ℕ → ℕ → ℕ → List ℕ
        said ws moves rounds records sum =
            report_of (end_by ws p.fates n) n (record { moves = moves; rounds = rounds; records = records }) p.fates sum

-- all four buffers of a run by a list of turns, once work is cleared
module _ (file turns start-memory : List ℕ) {memory log report work : List ℕ} (d : Performed file turns false start-memory memory log report)
    {long : ℕ} (cleared : work ≡ replicate long 0) (size : long ≡ work_length) where
  abbrev end : State
  end = played_from (plan_of file) start-memory turns

  same : played_from (plan_of file) start-memory d.played ≡ end
  same = ap (λ (us : List ℕ). played_from (plan_of file) start-memory us) (d.listed refl)

  pub left-same : lent memory log report work ≡ buffers_of (played_from (plan_of file) start-memory turns)
  left-same =
      ap (λ (bytes : List ℕ). lent bytes log report work) (d.same_memory ∙ ap (λ (s : State). s.memory) same)
      ∙ (ap (λ (bytes : List ℕ). lent end.memory bytes report work) (d.same_log ∙ ap lent_log same)
      ∙ (ap (λ (bytes : List ℕ). lent end.memory (lent_log end) bytes work) (d.same_report ∙ ap report_bytes same)
      ∙ ap (λ (bytes : List ℕ). lent end.memory (lent_log end) (report_bytes end) bytes) (cleared ∙ ap (λ (k : ℕ). replicate k 0) size)))

  -- bytes that are read as a number are the sum, which no sum of bytes is too great for
  pub sum_left : ((i : ℕ) → get_or memory i 0 < 256) → length memory ≡ memory_length → SumShown (lent memory log report work)
  sum_left small whole =
      let most = sum-small memory small 1024 (omega (arith, whole)) in
      subst⁻¹ SumShown left-same (sum-shown end (omega (arith, ap sum_of (d.same_memory ∙ ap (λ (s : State). s.memory) same), most)))
