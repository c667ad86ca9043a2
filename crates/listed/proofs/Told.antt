-- What is written is the listing, by the code, the log and the report that the run leaves. Callers want `refused-text`,
-- `accepted-text` and `listing-left`.
use Prim.Native.Nat.{ℕ, ◌-◌, ◌/◌, ◌%◌, ◌≤◌}
use native.Mathlib.Omega.{arith}
use mathlib.Core.Path.{◌≡◌, refl, sym, ap, ap₂, ◌∙◌, subst⁻¹}
use mathlib.Core.List.{List, [], ◌++◌}
use lib.ListN.{length, get_or, drop, replicate}
use Rattle.std.proofs.lemmas.List.{take-append-drop}
use Rattle.protocol.specs.Format.{Plan, plan_of}
use Rattle.protocol.specs.Refusals.{number_of, Verdict, accepted, refused, code_of, check}
use Rattle.protocol.specs.Rounds.{State}
use Rattle.protocol.specs.Report.{End, under_way, finished, stuck, end_of, end_number, report_bytes, log_bytes}
use Rattle.protocol.specs.Calls.{memory_length, log_length, lent_log, played_from}
use Rattle.protocol.specs.Listing.{listed_turns, turns_by, listed_state, log_lines, refusal_line, lines_of, listing}
use Rattle.protocol.proofs.Accepted.{sound-file}
use Rattle.protocol.proofs.Numbered.{numbered}
use Rattle.protocol.proofs.Bounds.{Bounded, played-bounded}
use Rattle.protocol.proofs.Bytes.{word_bytes}
use Rattle.protocol.proofs.Cycles.{listed-ends}
use Rattle.protocol.proofs.Logged.{played-rounds}
use Rattle.words.specs.Bytes.{word_at}
use Rattle.journal.specs.Offsets.{report_end, report_records, entries_limit}
use Rattle.listed.specs.Listed.{listed_run, RanToEnd}
use Rattle.admission.proofs.Admitting.{none-refused}
use Rattle.text.specs.declared.Text.{Text}
use Rattle.text.specs.Text.{written, rest, Wrote, entries_from, end_numbered, last_line}
use Rattle.listed.specs.Text.{WroteListing}
use Rattle.text.proofs.Entries.{entries-back}

pub refused-text : (file : List ℕ) (r : ℕ) → r ≡ code_of (check file) → (r ≡ 0 → ⊥) → refusal_line (r % 256) (r / 256) ≡ listing file
unfolding listing
refused-text file r e h = go (check file) e
  where
    go : (v : Verdict) → r ≡ code_of v → refusal_line (r % 256) (r / 256) ≡ lines_of v (listed_state (plan_of file))
    go accepted q = absurd (h q)
    go (refused f i) q =
        let l = (numbered f).1 in
        let number : r % 256 ≡ number_of f = omega arith in
        let index : r / 256 ≡ i = omega arith in
        ap (λ (k : ℕ). refusal_line k (r / 256)) number ∙ ap (refusal_line (number_of f)) index

-- the end, by its number
end_back : (e : End) → (end_number e ≡ end_number under_way → ⊥) → end_numbered (end_number e) ≡ e
end_back under_way h = absurd (h refl)
end_back finished h = refl
end_back stuck h = refl

-- What the log and the report of an accepted file's run tell.
pub record Told (file log report : List ℕ) : Type 0 where
  pub records : word_at report report_records ≤ entries_limit
  pub text : (k : ℕ) → k ≡ word_at report report_records → log_lines (entries_from log k 0) ++ last_line report ≡ listing file

module _ (file : List ℕ) (ok : check file ≡ accepted) where
  abbrev plan : Plan
  plan = plan_of file

  abbrev s : State
  s = listed_state plan

  -- the turns of a listing leave what the round-by-round run does
  run-played : listed_run file ≡ s
  run-played =
      sym (listed-ends file ok (replicate memory_length 0))
      ∙ ap (λ (v : Verdict). played_from plan (replicate memory_length 0) (turns_by v file)) ok

  b : Bounded plan s
  b = played-bounded plan (sound-file file ok) (replicate memory_length 0) (listed_turns plan)

  lines-back : (end_number (end_of s) ≡ end_number under_way → ⊥) → Told file (lent_log s) (report_bytes s)
  unfolding report_bytes lent_log listing
  lines-back h =
      let records = word_bytes (length s.log) (omega (arith, b.records_fit)) in
      let moves = word_bytes s.moves (omega (arith, b.moves_fit)) in
      let log = entries-back s.log (replicate (log_length - length (log_bytes s.log)) 0)
      (played-rounds plan (sound-file file ok) (replicate memory_length 0) (listed_turns plan)) in
      record {
        records = omega (arith, records, b.records_fit);
        text = λ k e.
            rw (e, records, moves, end_back (end_of s) h, log)
            (ap (λ (v : Verdict). lines_of v s) (sym ok));
      }

pub accepted-text : (file : List ℕ) {r : ℕ} {memory log report : List ℕ} → RanToEnd file r memory log report → r ≡ 0 → Told file log report
unfolding report_bytes
accepted-text file {report = report} listed z =
    let ok = none-refused (check file) (sym listed.code ∙ z) in
    let s = listed_state (plan_of file) in
    let same_log = listed.same_log z ∙ ap lent_log (run-played file ok) in
    let same_report = listed.same_report z ∙ ap report_bytes (run-played file ok) in
    let first : get_or report report_end 0 ≡ end_number (end_of s) = ap (λ (l : List ℕ). get_or l 0 0) same_report in
    subst⁻¹ (λ (l : List ℕ). Told file l report) same_log
    (subst⁻¹ (λ (l : List ℕ). Told file (lent_log s) l) same_report (lines-back file ok (λ q. listed.ended z (first ∙ q))))

-- the listing stands in front of the slice, and nothing else has changed
pub listing-left : (file : List ℕ) {code : ℕ} {memory log report slice bytes left : List ℕ} {before after : Text} → RanToEnd file code memory log report
    → written before ≡ []
    → rest before ≡ slice
    → Wrote before (listing file) after
    → bytes ≡ written after
    → left ≡ after.bytes.now
    → WroteListing file (record { code = code; length = length bytes }) memory slice left
listing-left file {slice = slice} {bytes = bytes} {before = before} {after = after} listed nothing all wrote as_bytes last =
    let lines : written after ≡ listing file = wrote.stands ∙ ap (λ (l : List ℕ). l ++ listing file) nothing in
    let same : length bytes ≡ length (listing file) = ap length (as_bytes ∙ lines) in
    let behind : rest after ≡ drop (length bytes) slice =
    wrote.behind ∙ (ap (λ (l : List ℕ). drop (length (listing file)) l) all ∙ ap (λ (k : ℕ). drop k slice) (sym same)) in
    record {
      code = listed.code;
      same_memory = listed.same_memory;
      size = same;
      text = last ∙ (sym (take-append-drop after.end after.bytes.now) ∙ ap₂ ◌++◌ lines behind);
    }
