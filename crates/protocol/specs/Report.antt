-- Document 01, "Log and report", and document 02, One and Three: both as bytes.
use Rattle.std.specs.Prelude.{ℕ, ◌/◌, ◌%◌, Bool, true, false, cond, ◌&&◌, List, [], ◌∷◌, ◌++◌, map, ltb, length, take}
use Rattle.protocol.specs.Format.{workers_limit, word, up_to}
use Rattle.protocol.specs.Steps.{on_condition, at_barrier, Fate, going, exited, failed, asleep, waiting, Worker}
use Rattle.protocol.specs.Rounds.{Entry, State, worker_at}
use Rattle.protocol.specs.Turns.{ended}
use Rattle.protocol.specs.Sum.{sum_of}

-- a two-byte number, low byte first
abbrev pub two_bytes : ℕ → List ℕ
two_bytes k = (k % 256) ∷ (k / 256 % 256) ∷ []

abbrev pub four_bytes : ℕ → List ℕ
four_bytes k = two_bytes k ++ two_bytes (k / 65536)

-- "Each executed synchronising step adds 8 bytes: mark 4D 4C, round (two), worker, op, number (one each), outcome."
abbrev pub entry_length : ℕ
entry_length = 8

abbrev pub log_mark : ℕ
log_mark = word 0x4D 0x4C

abbrev pub entry_bytes : Entry → List ℕ
entry_bytes e = two_bytes log_mark ++ (two_bytes e.round ++ (e.worker ∷ e.op ∷ e.number ∷ e.outcome ∷ []))

unfoldable pub log_bytes : List Entry → List ℕ
log_bytes [] = []
log_bytes (e ∷ es) = entry_bytes e ++ log_bytes es

-- One: "A plan is finished when every worker exited, failed or sleeps", "else stuck"
pub data End : Type 0 where
  under_way finished stuck : End

abbrev pub is_final : Fate → Bool
is_final f = elim f [ going ↦ false | exited ↦ true | failed ↦ true | asleep ↦ true | waiting q ↦ false ]

unfoldable pub all_final : List Worker → Bool
all_final [] = true
all_final (v ∷ vs) = is_final v.fate && all_final vs

unfoldable pub end_of : State → End
end_of s = cond (ended s) (cond (all_final s.workers) finished stuck) under_way

-- "end (0 going, 1 finished, 2 stuck)"
abbrev pub end_number : End → ℕ
end_number e = elim e [ under_way ↦ 0 | finished ↦ 1 | stuck ↦ 2 ]

-- "eight fates: 0 going, 1 exited, 2 failed, 3 on a condition, 4 at a barrier, 255 no such worker"; One: "A sleeper has fate 5"
abbrev pub fate_number : Fate → ℕ
fate_number going = 0
fate_number exited = 1
fate_number failed = 2
fate_number (waiting (on_condition c)) = 3
fate_number (waiting (at_barrier b)) = 4
fate_number asleep = 5

abbrev pub no_worker : ℕ
no_worker = 255

unfoldable pub fate_byte : State → ℕ → ℕ
fate_byte s w = cond (ltb w (length s.workers)) (fate_number (worker_at s w).fate) no_worker

abbrev pub fate_bytes : State → List ℕ
fate_bytes s = map (λ w. fate_byte s w) (up_to workers_limit)

-- "end; n; moving turns; rounds completed; log records (two bytes each); then eight fates"; Three: "The report grows to 20 bytes, the last
-- four being the sum, low byte first. It equals the sum worked out afresh after any turns."
unfoldable pub report_bytes : State → List ℕ
report_bytes s =
    end_number (end_of s)
    ∷ length s.workers
    ∷ (two_bytes s.moves
    ++ (two_bytes s.rounds ++ (two_bytes (length s.log) ++ (fate_bytes s ++ four_bytes (sum_of s.memory)))))

-- where the sum begins; and Seven: "reports but for the sum"
abbrev pub report_sum : ℕ
report_sum = 16

abbrev pub but_for_sum : List ℕ → List ℕ
but_for_sum report = take report_sum report
