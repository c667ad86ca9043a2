-- What a list of turns leaves has the lengths of the buffers that are lent.
use Prim.Native.Nat.{ℕ, suc, ◌-◌, ◌*◌}
use native.Mathlib.Omega.{arith}
use mathlib.Core.Bool.{Bool, true, false, cond}
use mathlib.Core.Path.{◌≡◌, refl, ap, ◌∙◌}
use mathlib.Core.List.{List, [], ◌∷◌}
use lib.ListN.{length, replicate, length-append, length-replicate}
use Rattle.protocol.specs.Format.{Step, own, sync, Plan, count_from}
use Rattle.protocol.specs.Pages.{Copies, commit_from}
use Rattle.protocol.specs.Steps.{step_at}
use Rattle.protocol.specs.Rounds.{Entry, State, worker_at, queue_of, fate_in, rule_of, Uncommitted, kept, committed, lost, memory_after, apply, sync_move}
use Rattle.protocol.specs.Turns.{start, behind, move_by, can, move, turn, play}
use Rattle.protocol.specs.Report.{entry_length, log_bytes, report_bytes}
use Rattle.protocol.specs.Calls.{memory_length, log_length, work_length, lent_log, buffers_of, played_from}
use Rattle.protocol.specs.WellFormed.{Fitting}
use Rattle.protocol.proofs.Sound.{Sound}
use Rattle.protocol.proofs.Bounds.{played-bounded}
use Rattle.protocol.proofs.Sums.{closed-memory}

-- ---- memory

commit-size : (copies : Copies) (a : ℕ) (memory : List ℕ) → length (commit_from copies a memory) ≡ length memory
unfolding commit_from
commit-size copies a [] = refl
commit-size copies a (x ∷ rest) = ap suc (commit-size copies (suc a) rest)

settle-size : (b : Uncommitted) (copies : Copies) (memory : List ℕ) → length (memory_after b copies memory) ≡ length memory
settle-size kept copies memory = refl
settle-size committed copies memory = commit-size copies 0 memory
settle-size lost copies memory = refl

move-size : (plan : Plan) (s : State) (w : ℕ) → length (move plan s w).memory ≡ length s.memory
unfolding move apply
move-size plan s w = go (step_at plan w (worker_at s w).place) (worker_at s w).arrived
  where
    go : (y : Step) (here : Bool) → length (move_by plan y here w s).memory ≡ length s.memory
    go (own o) here = refl
    go (sync y) false = refl
    go (sync y) true =
        ap length (closed-memory (sync_move plan y w (behind s.list) s))
        ∙ settle-size (rule_of plan (queue_of s) (fate_in s) (worker_at s w).held y).bytes (worker_at s w).copies s.memory

pub play-size : (plan : Plan) (s : State) (turns : List ℕ) → length (play plan s turns).memory ≡ length s.memory
unfolding play turn
play-size plan s [] = refl
play-size plan s (w ∷ ws) = play-size plan (turn plan s w) ws ∙ go (can s w)
  where
    go : (b : Bool) → length (cond b (move plan s w) s).memory ≡ length s.memory
    go true = move-size plan s w
    go false = refl

-- ---- the log

pub length-log : (es : List Entry) → length (log_bytes es) ≡ entry_length * length es
unfolding log_bytes
length-log [] = refl
length-log (e ∷ es) = let h = length-log es in omega arith

-- ---- all four

pub left-fits : (plan : Plan) → Sound plan → (memory turns : List ℕ) → length memory ≡ memory_length → Fitting (buffers_of (played_from plan memory turns))
unfolding start lent_log report_bytes count_from
left-fits plan sound memory turns size =
    record {
      memory = play-size plan (start plan memory) turns ∙ size;
      log = logged;
      report = refl;
      work = length-replicate {A = ℕ} work_length 0;
    }
  where
    es : List Entry
    es = (played_from plan memory turns).log

    logged : length (lent_log (played_from plan memory turns)) ≡ log_length
    logged =
        let most = (played-bounded plan sound memory turns).records_fit in
        let records = length-log es in
        let rest = length-replicate {A = ℕ} (log_length - length (log_bytes es)) 0 in
        length-append (log_bytes es) (replicate (log_length - length (log_bytes es)) 0) ∙ omega (arith, most, records, rest)
