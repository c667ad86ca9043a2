-- Lines of numbers: how one goes on, and how long it is at most.
use Rattle.std.proofs.Common.{◌≡◌, ℕ, suc, ◌+◌, ◌^◌, ◌<◌, ◌≤◌, List, [], ◌∷◌, ◌++◌, length, get_or, drop, ap, ◌∙◌, arith, length-append}
use Rattle.std.proofs.lemmas.List.{append_assoc, at_drop_more}
use Rattle.protocol.specs.Rounds.{Entry}
use Rattle.protocol.specs.Report.{End}
use Rattle.protocol.specs.Listing.{ascii, decimal, space, separator, line, record_line, end_word, end_line, refusal_line}
use Rattle.words.specs.Bytes.{word_at}
use Rattle.journal.specs.Offsets.{entry_round, entry_worker, entry_op, entry_number, entry_outcome}
use Rattle.text.specs.Text.{record_line_limit, entry_at}
use Rattle.text.proofs.Digits.{few-digits}

-- a line from its number i on
pub next-number : (ns : List ℕ) (i : ℕ) → i < length ns
    → line (drop i ns) ≡ decimal (get_or ns i 0) ++ (separator (drop (i + 1) ns) ∷ line (drop (i + 1) ns))
unfolding line
next-number ns i h = at_drop_more line ns i 0 h

-- how long a line is: one more number, of at most k + 1 digits
one-longer : (k n : ℕ) (ns : List ℕ) (m : ℕ) → n < 10 ^ suc k → length (line ns) ≤ m → length (line (n ∷ ns)) ≤ suc (suc k) + m
unfolding line
one-longer k n ns m h l = omega (arith, length-append (decimal n) (separator ns ∷ line ns), few-digits k n h)

none-long : length (line []) ≤ 0
unfolding line
none-long = omega arith

pub moves-length : (n : ℕ) → n < 65536 → length (line (n ∷ [])) ≤ 6
moves-length n h = one-longer 4 n _ 0 (omega arith) none-long

pub number-length : (n : ℕ) → n < 18446744073709551616 → length (line (n ∷ [])) ≤ 21
number-length n h = one-longer 19 n _ 0 (omega arith) none-long

pub refusal-length : (n i : ℕ) → n < 256 → i < 16777216 → length (line (n ∷ i ∷ [])) ≤ 13
refusal-length n i h l = one-longer 2 n _ 9 (omega arith) (one-longer 7 i _ 0 (omega arith) none-long)

-- a record's line, by its numbers
pub record-line : (e : Entry) (r w o n c : ℕ) → r ≡ e.round → w ≡ e.worker → o ≡ e.op → n ≡ e.number → c ≡ e.outcome
    → line (r ∷ w ∷ o ∷ n ∷ c ∷ []) ≡ record_line e
unfolding record_line
record-line e r w o n c hr hw ho hn hc = cc

-- the five numbers of a record
pub five-length : (r w o n c : ℕ) → r < 65536 → w < 256 → o < 256 → n < 256 → c < 256 → length (line (r ∷ w ∷ o ∷ n ∷ c ∷ [])) ≤ record_line_limit
five-length r w o n c hr hw ho hn hc =
    one-longer 4 r _ 16 (omega arith)
    (one-longer 2 w _ 12 (omega arith)
    (one-longer 2 o _ 8 (omega arith) (one-longer 2 n _ 4 (omega arith) (one-longer 2 c _ 0 (omega arith) none-long))))

pub record-length : (log : List ℕ) (position : ℕ) → ((k : ℕ) → get_or log k 0 < 256) → length (record_line (entry_at log position)) ≤ record_line_limit
unfolding record_line
record-length log position byte =
    let round : word_at log (position + entry_round) < 65536 = omega (arith, byte (position + entry_round), byte (position + entry_round + 1)) in
    five-length _ _ _ _ _ round (byte (position + entry_worker)) (byte (position + entry_op)) (byte (position + entry_number)) (byte (position + entry_outcome))

-- the last line, by its parts
pub end_line-line : (e : End) (m n : ℕ) → m ≡ n → (end_word e ++ (space ∷ [])) ++ line (m ∷ []) ≡ end_line e n
unfolding end_line
end_line-line e m n h = append_assoc (end_word e) (space ∷ []) (line (m ∷ [])) ∙ ap (λ (k : ℕ). end_word e ++ (space ∷ line (k ∷ []))) h

-- and a refusal's
pub refusal_line-line : (number index n i : ℕ) → n ≡ number → i ≡ index → (ascii "refused" ++ (space ∷ [])) ++ line (n ∷ i ∷ []) ≡ refusal_line number index
unfolding refusal_line
refusal_line-line number index n i hn hi = cc
