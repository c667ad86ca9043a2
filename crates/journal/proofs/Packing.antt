-- What a record more makes of the log's bytes, and zeros behind them; and what a report written in three parts is.
use Prim.Native.Nat.{ℕ, ◌+◌, ◌-◌, ◌*◌, ◌/◌, ◌%◌, ◌≤◌}
use mathlib.Core.Path.{◌≡◌, ap, sym, ◌∙◌}
use mathlib.Core.List.{List, [], ◌∷◌, ◌++◌, append_assoc, append-nil}
use native.Mathlib.Omega.{arith}
use lib.ListN.{length, take, drop, replicate, length-append, length-drop, drop_of_length-le}
use borrow.Rule.Slice.PartMut.{mid_of, put_mid}
use lib.Seq.{sets, sets-eq, take_at, drop_at, length-take-le}
use Rattle.std.specs.Int.{to_le_bytes, w32}
use Rattle.protocol.specs.Format.{workers_limit}
use Rattle.protocol.specs.Rounds.{Entry}
use Rattle.protocol.specs.Report.{entry_length, four_bytes, entry_bytes, log_bytes, report_sum}
use Rattle.journal.specs.Offsets.{tallies_length, report_fates}

log_bytes-more : (es : List Entry) (e : Entry) → log_bytes (es ++ (e ∷ [])) ≡ log_bytes es ++ entry_bytes e
unfolding log_bytes
log_bytes-more [] e = append-nil (entry_bytes e)
log_bytes-more (x ∷ es) e = ap (λ (l : List ℕ). entry_bytes x ++ l) (log_bytes-more es e) ∙ sym (append_assoc (entry_bytes x) (log_bytes es) (entry_bytes e))

-- a record more, behind those that the log has
pub record-more : (log : List ℕ) (es : List Entry) (e : Entry) (records : ℕ) → entry_length * records + entry_length ≤ length log → take (entry_length * records) log ≡ log_bytes es
    → take (entry_length * (records + 1)) (sets log (entry_length * records) (entry_bytes e)) ≡ log_bytes (es ++ (e ∷ []))
record-more log es e records fits old =
    ap (λ (l : List ℕ). take (entry_length * (records + 1)) l) (sets-eq (entry_bytes e) log (entry_length * records) fits)
    ∙ (take_at (take (entry_length * records) log ++ entry_bytes e) (drop (entry_length * records + entry_length) log) (entry_length * (records + 1)) size
    ∙ (ap (λ (l : List ℕ). l ++ entry_bytes e) old ∙ sym (log_bytes-more es e)))
  where
    size : length (take (entry_length * records) log ++ entry_bytes e) ≡ entry_length * (records + 1)
    size =
        length-append (take (entry_length * records) log) (entry_bytes e)
        ∙ (ap (λ (k : ℕ). k + entry_length) (length-take-le (entry_length * records) log (omega arith)) ∙ omega arith)

-- what stands behind a list's front is written over, up to the end
overwritten : (m front rest z : List ℕ) (k : ℕ) → m ≡ front ++ rest → length front ≡ k → put_mid k (length m - k) m z ≡ front ++ z
overwritten m front rest z k e h =
    rw (e, take_at front rest k h, drop_at front rest k h)
    (ap (λ (l : List ℕ). front ++ (z ++ l)) (drop_of_length-le rest {i = length (front ++ rest) - k} (let n = length-append front rest in omega arith))
    ∙ ap (λ (l : List ℕ). front ++ l) (append-nil z))

-- zeros from a place on
pub cleared : (l : List ℕ) (at : ℕ) → at ≤ length l
    → put_mid at (length l - at) l (replicate (length (mid_of at (length l - at) l)) 0) ≡ take at l ++ replicate (length l - at) 0
cleared l at h =
    ap (λ (n : ℕ). take at l ++ (replicate n 0 ++ drop (length l - at) (drop at l))) whole
    ∙ (ap (λ (r : List ℕ). take at l ++ (replicate (length l - at) 0 ++ r)) (drop_of_length-le (drop at l) {i = length l - at} (let e = length-drop at l in omega arith))
    ∙ ap (λ (r : List ℕ). take at l ++ r) (append-nil (replicate (length l - at) 0)))
  where
    whole : length (take (length l - at) (drop at l)) ≡ length l - at
    whole = length-take-le (length l - at) (drop at l) (let e = length-drop at l in omega arith)

-- the sum's four bytes
pub sum-bytes : (n : ℕ) → to_le_bytes w32 n ≡ four_bytes n
sum-bytes n =
    let highest : n / 16777216 ≡ n / 65536 / 256 = omega arith in
    ap (λ (b : ℕ). n % 256 ∷ n / 256 % 256 ∷ n / 65536 % 256 ∷ b % 256 ∷ []) highest

-- a report written anew in three parts
pub parts : (l a b z : List ℕ) → length a ≡ tallies_length → length b ≡ workers_limit
    → put_mid report_sum (length (put_mid report_fates workers_limit (a ++ drop tallies_length l) b) - report_sum) (put_mid report_fates workers_limit (a ++ drop tallies_length l) b) z ≡ a ++ (b ++ z)
parts l a b z ha hb =
    overwritten _ (a ++ b) (drop workers_limit (drop tallies_length l)) z report_sum
    (ap (λ (t : List ℕ). t ++ (b ++ drop 8 (drop 8 (a ++ drop 8 l)))) (take_at a (drop 8 l) 8 ha)
    ∙ (ap (λ (t : List ℕ). a ++ (b ++ drop 8 t)) (drop_at a (drop 8 l) 8 ha) ∙ sym (append_assoc a b (drop 8 (drop 8 l)))))
    (let n = length-append a b in omega arith)
    ∙ append_assoc a b z
