-- A case of the tables is computed once: by the round-by-round run where the listing program's turns end it, else by its turns. By demand 3 the
-- round-by-round run is what those turns leave.
use Prim.Native.Nat.{ℕ, ◌-◌, ◌≤◌}
use native.Mathlib.Omega.{arith}
use mathlib.Core.Bool.{true}
use mathlib.Core.Path.{◌≡◌, refl, sym, ap, ◌∙◌}
use mathlib.Core.List.{List, [], ◌∷◌, map}
use borrow.Author.Tests.{leb-true}
use lib.Dec.{leb}
use lib.ListN.{length, replicate, length-append, length-replicate}
use Rattle.protocol.specs.Refusals.{Verdict, accepted, check}
use Rattle.protocol.specs.Calls.{Reply, memory_length, log_length, report_length, work_length, run}
use Rattle.protocol.specs.Listing.{turns_by}
use Rattle.protocol.specs.WellFormed.{Fitting}
use Rattle.protocol.proofs.Batches.{separate-accepted}
use Rattle.protocol.proofs.Table.{Fed, listing, nothing, thrice, Case, turns_for, padded, lent_to, round_reply, yields_by, yields, expected, expects_by, expects}

unfoldable pub computed_by : Fed → Case → Reply
computed_by fed c =
    elim fed [
      | listing ↦ round_reply c
      | nothing ↦ run c.file (turns_for nothing c.file) (lent_to c)
      | thrice ↦ run c.file (turns_for thrice c.file) (lent_to c)
    ]

abbrev pub computed : Case → Reply
computed c = computed_by c.fed c

padded-length : (size : ℕ) (bytes : List ℕ) → length bytes ≤ size → length (padded size bytes) ≡ size
unfolding padded
padded-length size bytes h =
    length-append bytes (replicate (size - length bytes) 0) ∙ omega (arith, length-replicate {A = ℕ} (size - length bytes) 0)

lent_fits : (c : Case) → leb (length c.lent) memory_length ≡ true → Fitting (lent_to c)
unfolding lent_to
lent_fits c h =
    record {
      memory = padded-length memory_length c.lent (leb-true _ _ h);
      log = length-replicate {A = ℕ} log_length 170;
      report = length-replicate {A = ℕ} report_length 170;
      work = length-replicate {A = ℕ} work_length 170;
    }

module _ (c : Case) (fits : leb (length c.lent) memory_length ≡ true) (ok : check c.file ≡ accepted) where
  -- by demand 3
  by-turns : run c.file (turns_for listing c.file) (lent_to c) ≡ round_reply c
  unfolding turns_for round_reply
  by-turns =
      ap (λ (v : Verdict). run c.file (turns_by v c.file) (lent_to c)) (sym ok)
      ∙ separate-accepted c.file (lent_to c) (lent_fits c fits) ok

  one-worked : (fed : Fed) → computed_by fed c ≡ expected c → yields_by fed c ≡ expects_by fed c
  unfolding computed_by
  one-worked listing e = ap (λ (r : Reply). r ∷ round_reply c ∷ []) by-turns ∙ ap (λ (r : Reply). r ∷ r ∷ []) e
  one-worked nothing e = ap (λ (r : Reply). r ∷ []) e
  one-worked thrice e = ap (λ (r : Reply). r ∷ []) e

-- of a whole table: its files are accepted, its memories fit, and what is computed is expected
pub all-worked : (cs : List Case)
    → map (λ (c : Case). leb (length c.lent) memory_length) cs ≡ map (λ (c : Case). true) cs
    → map (λ (c : Case). check c.file) cs ≡ map (λ (c : Case). accepted) cs
    → map computed cs ≡ map expected cs → map yields cs ≡ map expects cs
unfolding yields expects
all-worked [] fit ok same = refl
all-worked (c ∷ cs) fit ok same =
    ap (λ (rs : List Reply). rs ∷ map yields cs) (one-worked c (cc) (cc) c.fed (cc))
    ∙ ap (λ (rss : List (List Reply)). expects c ∷ rss) (all-worked cs (cc) (cc) (cc))
