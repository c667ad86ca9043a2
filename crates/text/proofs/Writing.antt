-- Writing piece by piece: two pieces, one behind the other, and the pieces of a line, which start with `all_left`, go on with `room-left`
-- and `less-left` and end with `all-written`.
use Rattle.std.proofs.Common.{◌≡◌, ℕ, ◌+◌, ◌-◌, ◌≤◌, List, [], ◌++◌, length, drop, refl, sym, ap, ◌∙◌, subst, arith, length-append, length-drop}
use Rattle.std.proofs.lemmas.List.{append-nil, append_assoc, drop-drop}
use Rattle.text.specs.declared.Text.{Text}
use Rattle.text.specs.Text.{written, rest, Wrote, WroteWithin}

-- what was written: nothing, a piece, and another behind it

pub wrote-nothing : (t : Text) → Wrote t [] t
wrote-nothing t = record { stands = sym (append-nil (written t)); behind = refl; same_slice = refl }

pub wrote_as : {before after : Text} {bytes same : List ℕ} → Wrote before bytes after → bytes ≡ same → Wrote before same after
wrote_as {before} {after} wrote e = subst (λ (l : List ℕ). Wrote before l after) e wrote

pub wrote-both : {before between after : Text} {a b : List ℕ} → Wrote before a between → Wrote between b after → Wrote before (a ++ b) after
wrote-both {before} {a = a} {b = b} wrote then =
    record {
      stands = then.stands ∙ (ap (λ (l : List ℕ). l ++ b) wrote.stands ∙ append_assoc (written before) a b);
      behind =
          then.behind
          ∙ (ap (λ (l : List ℕ). drop (length b) l) wrote.behind
          ∙ (drop-drop (length b) (length a) (rest before) ∙ ap (λ (k : ℕ). drop k (rest before)) (sym (length-append a b))));
      same_slice = then.same_slice ∙ wrote.same_slice;
    }

-- how much room is left behind it
pub room-behind : {before after : Text} {bytes : List ℕ} → Wrote before bytes after → length (rest after) ≡ length (rest before) - length bytes
room-behind {before} {bytes = bytes} wrote = ap length wrote.behind ∙ length-drop (length bytes) (rest before)

-- the same of pieces that are so long at most

pub within_as : {limit : ℕ} {before after : Text} {bytes same : List ℕ} → WroteWithin limit before bytes after → bytes ≡ same
    → WroteWithin limit before same after
within_as {limit} {before} {after} wrote e = subst (λ (l : List ℕ). WroteWithin limit before l after) e wrote

pub within-both : {m k : ℕ} {before between after : Text} {a b : List ℕ} → WroteWithin m before a between → Wrote between b after → length b ≤ k
    → WroteWithin (m + k) before (a ++ b) after
within-both {a = a} {b = b} first then short =
    record { wrote = wrote-both first.wrote then; within = omega (arith, first.within, short, length-append a b) }

pub room-within : {m k : ℕ} {before between : Text} {a : List ℕ} → WroteWithin m before a between → m + k ≤ length (rest before) → k ≤ length (rest between)
room-within first room = omega (arith, room-behind first.wrote, first.within, room)

-- a line, number by number: what is done of the whole is written, and some is left
pub record Remains (before : Text) (whole : List ℕ) (now : Text) (left : List ℕ) : Type 0 where
  pub done : List ℕ
  pub wrote : Wrote before done now
  pub parts : done ++ left ≡ whole

pub all_left : (before : Text) (whole left : List ℕ) → left ≡ whole → Remains before whole before left
all_left before whole left e =
    record { done = []; wrote = wrote-nothing before; parts = e }

module _ {before : Text} {whole : List ℕ} {now : Text} {left : List ℕ} (remains : Remains before whole now left) where
  pub less-left : {after : Text} (a more : List ℕ) → left ≡ a ++ more → Wrote now a after → Remains before whole after more
  less-left a more e wrote =
      record {
        done = remains.done ++ a;
        wrote = wrote-both remains.wrote wrote;
        parts = append_assoc remains.done a more ∙ (ap (λ (l : List ℕ). remains.done ++ l) (sym e) ∙ remains.parts);
      }

  pub all-written : left ≡ [] → Wrote before whole now
  all-written e = wrote_as remains.wrote (sym (append-nil remains.done) ∙ (ap (λ (l : List ℕ). remains.done ++ l) (sym e) ∙ remains.parts))

  -- what was room for the whole is room for the next piece
  pub room-left : (a more : List ℕ) → left ≡ a ++ more → length whole ≤ length (rest before) → length a ≤ length (rest now)
  room-left a more e room =
      omega (arith, room-behind remains.wrote, length-append remains.done left, ap length remains.parts, ap length e, length-append a more)
