-- A log's bytes, read back: the records are those that were written. Callers want `entries-back`, `entry-in` and `log_more`.
use Prim.Native.Nat.{ℕ, zero, suc, ◌+◌, ◌*◌, ◌<◌, ◌≤◌}
use native.Mathlib.Omega.{arith}
use mathlib.Core.Path.{◌≡◌, refl, sym, ap, ◌∙◌}
use mathlib.Core.List.{List, [], ◌∷◌, ◌++◌, append-nil, append_assoc}
use lib.ListN.{length, get_or, take, drop}
use lib.Seq.{get_or-append-add, get_or-take, get_or-drop}
use Rattle.std.specs.Simd.{first_chunks}
use Rattle.protocol.specs.Rounds.{Entry}
use Rattle.protocol.specs.Report.{entry_length, entry_bytes, log_bytes}
use Rattle.protocol.specs.Listing.{record_line, log_lines}
use Rattle.protocol.proofs.Bytes.{word_bytes}
use Rattle.protocol.proofs.Logged.{Within, none, more}
use Rattle.journal.specs.Offsets.{entry_round, entry_worker, entry_op, entry_number, entry_outcome}
use Rattle.journal.specs.Bytes.{entry_as}
use Rattle.text.specs.Text.{entry_at, entries_from}

-- a record in front moves each record behind it by its width
entry-behind : (e : Entry) (log : List ℕ) (i : ℕ) → entry_at (entry_bytes e ++ log) (entry_length * suc i) ≡ entry_at log (entry_length * i)
entry-behind e log i =
    cc (byte entry_round, word_end, byte entry_worker, byte entry_op, byte entry_number, byte entry_outcome)
  where
    moved : (at from : ℕ) → at ≡ entry_length + from → get_or (entry_bytes e ++ log) at 0 ≡ get_or log from 0
    moved at from h = ap (λ (k : ℕ). get_or (entry_bytes e ++ log) k 0) h ∙ get_or-append-add (entry_bytes e) log from 0

    byte : (j : ℕ) → get_or (entry_bytes e ++ log) (entry_length * suc i + j) 0 ≡ get_or log (entry_length * i + j) 0
    byte j = moved (entry_length * suc i + j) (entry_length * i + j) (omega arith)

    word_end : get_or (entry_bytes e ++ log) (entry_length * suc i + entry_round + 1) 0 ≡ get_or log (entry_length * i + entry_round + 1) 0
    word_end = moved (entry_length * suc i + entry_round + 1) (entry_length * i + entry_round + 1) (omega arith)

entries-behind : (e : Entry) (log : List ℕ) (k i : ℕ) → entries_from (entry_bytes e ++ log) k (suc i) ≡ entries_from log k i
unfolding entries_from
entries-behind e log zero i = refl
entries-behind e log (suc k) i = cc (entry-behind e log i, entries-behind e log k (suc i))

pub entries-back : (es : List Entry) (rest : List ℕ) → Within 2065 es → entries_from (log_bytes es ++ rest) (length es) 0 ≡ es
unfolding entries_from log_bytes
entries-back [] rest none = refl
entries-back (e ∷ es) rest (more x h w) =
    ap (λ (r : ℕ). entry_as r e.worker e.op e.number e.outcome ∷ entries_from (entry_bytes e ++ (log_bytes es ++ rest)) (length es) 1)
    (word_bytes e.round (omega arith))
    ∙ ap (λ (l : List Entry). e ∷ l) (entries-behind e (log_bytes es ++ rest) (length es) 0 ∙ entries-back es rest w)

-- the records of a log as arrays

byte-in : (log : List ℕ) (n i j : ℕ) → i < n → j < entry_length → get_or (get_or (first_chunks entry_length n log) i []) j 0 ≡ get_or log (entry_length * i + j) 0
byte-in log zero i j h l = absurd (omega arith)
byte-in log (suc n) zero j h l = get_or-take entry_length log j 0 l ∙ ap (λ (at : ℕ). get_or log at 0) (omega arith)
byte-in log (suc n) (suc i) j h l =
    byte-in (drop entry_length log) n i j (omega arith) l
    ∙ get_or-drop entry_length log (entry_length * i + j) 0
    ∙ ap (λ (at : ℕ). get_or log at 0) (omega arith)

-- the array at an index of the first so many bytes is the log's record there
pub entry-in : (log : List ℕ) (i : ℕ) {n m : ℕ} {chunks : List (List ℕ)} → chunks ≡ first_chunks entry_length n (take m log) → (i < n) × (entry_length * n ≤ m)
    → entry_at (get_or chunks i []) 0 ≡ entry_at log (entry_length * i)
entry-in log i {n} {m} {chunks} front h =
    cc (round_low, round_high, byte entry_worker (omega arith), byte entry_op (omega arith), byte entry_number (omega arith), byte entry_outcome (omega arith))
  where
    byte : (j : ℕ) → j < entry_length → get_or (get_or chunks i []) j 0 ≡ get_or log (entry_length * i + j) 0
    byte j l =
        ap (λ (cs : List (List ℕ)). get_or (get_or cs i []) j 0) front
        ∙ byte-in (take m log) n i j h.0 l
        ∙ get_or-take m log (entry_length * i + j) 0 (omega (arith, h.0, h.1))

    round_low : get_or (get_or chunks i []) entry_round 0 ≡ get_or log (entry_length * i + entry_round) 0
    round_low = byte entry_round (omega arith)

    round_high : get_or (get_or chunks i []) (entry_round + 1) 0 ≡ get_or log (entry_length * i + entry_round + 1) 0
    round_high = byte (entry_round + 1) (omega arith) ∙ ap (λ (at : ℕ). get_or log at 0) (omega arith)

-- the lines of one record more

entries_more : (log : List ℕ) (k i : ℕ) → entries_from log (suc k) i ≡ entries_from log k i ++ (entry_at log (entry_length * (i + k)) ∷ [])
unfolding entries_from
entries_more log zero i = let same : i ≡ i + 0 = omega arith in ap (λ (j : ℕ). entry_at log (entry_length * j) ∷ []) same
entries_more log (suc k) i =
    let next : suc i + k ≡ i + suc k = omega arith in
    ap (λ (es : List Entry). entry_at log (entry_length * i) ∷ es)
    (entries_more log k (suc i) ∙ ap (λ (j : ℕ). entries_from log k (suc i) ++ (entry_at log (entry_length * j) ∷ [])) next)

lines_more : (es : List Entry) (e : Entry) → log_lines (es ++ (e ∷ [])) ≡ log_lines es ++ record_line e
unfolding log_lines
lines_more [] e = append-nil (record_line e)
lines_more (first ∷ es) e =
    ap (λ (l : List ℕ). record_line first ++ l) (lines_more es e) ∙ sym (append_assoc (record_line first) (log_lines es) (record_line e))

pub log_more : (log : List ℕ) (i : ℕ) → log_lines (entries_from log i 0) ++ record_line (entry_at log (entry_length * i)) ≡ log_lines (entries_from log (i + 1) 0)
log_more log i =
    let more : suc i ≡ i + 1 = omega arith in
    let last : 0 + i ≡ i = omega arith in
    sym (lines_more (entries_from log i 0) (entry_at log (entry_length * i)))
    ∙ ap log_lines (sym (entries_more log i 0 ∙ ap (λ (j : ℕ). entries_from log i 0 ++ (entry_at log (entry_length * j) ∷ [])) last))
    ∙ ap (λ (k : ℕ). log_lines (entries_from log k 0)) more
