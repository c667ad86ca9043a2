-- Bytes copied to a place of a log.
use Rattle.std.proofs.Common.{◌≡◌, ◌∙◌, ◌≤◌, ℕ, ◌+◌, List, ◌++◌, length, take, drop, ap, sym}
use Rattle.std.proofs.lemmas.List.{drop-drop, append_assoc}
use Rattle.std.proofs.lemmas.List.Edits.{sets, sets-eq}
use borrow.Rule.Slice.PartMut.{put_mid}

pub placed : (log entry copy : List ℕ) (at width place : ℕ) → copy ≡ entry → width ≡ length entry → at ≡ place → at + length entry ≤ length log
    → put_mid at width log copy ≡ sets log place entry
placed log entry copy at width place same long there fits =
    rw (same, long, ← there)
    (ap (λ (rest : List ℕ). take at log ++ (entry ++ rest)) (drop-drop (length entry) at log)
    ∙ sym (sets-eq entry log at fits ∙ append_assoc (take at log) entry (drop (at + length entry) log)))
