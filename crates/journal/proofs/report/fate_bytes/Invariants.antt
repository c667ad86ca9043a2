use Rattle.std.proofs.Common.{◌≡◌, ℕ, ◌<◌, ◌≤◌, get_or}
use Rattle.protocol.specs.Format.{workers_limit}
use Rattle.protocol.specs.Report.{no_worker}
use Rattle.journal.specs.Bytes.{shown}
use Rattle.journal.proofs.report.fate_bytes.Given as goal

abbrev pub invariant-loop-w : goal.invariant-loop-w
invariant-loop-w l = record {
  done : (k : ℕ) → k < l.w → get_or l.byte-items k 0 ≡ shown l.workers k (get_or l.fates k 0);
  rest : (k : ℕ) → l.w ≤ k → k < workers_limit → get_or l.byte-items k 0 ≡ no_worker;
}
