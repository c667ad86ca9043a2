-- The turns that a plan is listed with. Callers want `few-turns`, `measured` and `all_listed`.
use Prim.Native.Nat.{ℕ, zero, suc, ◌+◌, ◌-◌, ◌*◌, ◌%◌, ◌<◌, ◌≤◌}
use mathlib.Core.Path.{◌≡◌, sym, ap, ◌∙◌, subst}
use native.Mathlib.Nat as nat
use mathlib.Core.List.{List, ◌++◌, map}
use native.Mathlib.Omega.{arith}
use native.Mathlib.Decide.{dec_lt}
use lib.ListN.{length, get_or, get_or-append}
use lib.Seq.{get_or-append-add, ext_get_or}
use Rattle.protocol.specs.Format.{workers_limit, steps_limit, Record, steps_in, first_in, workers_in, count_from, up_to, records, plan_in, plan_of}
use Rattle.protocol.specs.Refusals.{Verdict, accepted, check}
use Rattle.protocol.specs.Turns.{workers_of}
use Rattle.protocol.specs.RoundRun.{total, step_count}
use Rattle.protocol.specs.Listing.{cycles, listed_turns, turns_by}
use Rattle.protocol.proofs.Lists.{length-count_from, get_or-count_from}
use Rattle.protocol.proofs.Cycles.{length-cycles}
use Rattle.protocol.proofs.Prefix.{Together}
use Rattle.protocol.proofs.Accepted.{Accepted, accepted-file, workers-of}
use Rattle.std.specs.Prelude.{Ok}
use Rattle.plan.specs.Checking.{CheckedAs}
use Rattle.plan.specs.declared.check.Layout.{Layout}
use Rattle.listed.specs.Listed.{turn_count, ending_turns}

-- ---- how many turns

grows : (a b c : ℕ) → a ≤ b → a * c ≤ b * c
grows a b zero h = omega arith
grows a b (suc c) h = let k = grows a b c h in omega arith

pub few-turns : (steps n : ℕ) → n ≤ workers_limit → steps ≤ steps_limit * n → turn_count steps n ≤ ending_turns
few-turns steps n h k =
    let a = grows (2 * (steps + n)) (2 * (steps_limit + 1) * workers_limit) n (omega arith) in omega arith

-- ---- how many steps: those of the workers from i on stand between two first steps

module _ (rs : List Record) (t : Together rs) (few : (w : ℕ) → length (steps_in rs w) ≤ steps_limit) where
  counted-from : (k i : ℕ) → first_in rs i + total (map (λ w. steps_in rs w) (count_from k i)) ≡ first_in rs (i + k)
  unfolding total count_from
  counted-from zero i = let g : first_in rs i ≡ first_in rs (i + 0) = ap (λ (j : ℕ). first_in rs j) (omega arith) in omega arith
  counted-from (suc k) i =
      let e = t i in
      let f = counted-from k (suc i) in
      let g : first_in rs (suc i + k) ≡ first_in rs (i + suc k) = ap (λ (j : ℕ). first_in rs j) (omega arith) in
      omega arith

  few-from : (k i : ℕ) → total (map (λ w. steps_in rs w) (count_from k i)) ≤ steps_limit * k
  unfolding total count_from
  few-from zero i = omega arith
  few-from (suc k) i = let f = few i in let g = few-from k (suc i) in omega arith

module _ (file : List ℕ) (ok : check file ≡ accepted) where
  abbrev rs : List Record
  rs = records file

  a : Accepted rs
  a = (accepted-file file ok).records

  some-workers : 1 ≤ workers_in rs
  some-workers = a.least

  few-workers : workers_in rs ≤ workers_limit
  few-workers = a.most

  steps-counted : first_in rs 0 + step_count (plan_of file) ≡ first_in rs (workers_in rs)
  unfolding plan_in
  steps-counted =
      counted-from rs a.read.together a.read.few (workers_in rs) 0 ∙ ap (λ (j : ℕ). first_in rs j) (omega arith)

  steps-few : step_count (plan_of file) ≤ steps_limit * workers_in rs
  unfolding plan_in
  steps-few = few-from rs a.read.together a.read.few (workers_in rs) 0

-- What an accepted file's layout tells of its turns.
pub record Measured (file : List ℕ) (l : Layout) : Type 0 where
  pub ok : check file ≡ accepted
  pub workers : l.workers ≡ workers_in (records file)
  pub some : 0 < l.workers
  pub most : l.workers ≤ workers_limit
  pub counted : get_or l.firsts 0 0 + step_count (plan_of file) ≡ get_or l.firsts l.workers 0
  pub few : step_count (plan_of file) ≤ steps_limit * l.workers

pub measured : (file : List ℕ) (l : Layout) → CheckedAs file (Ok l) → Measured file l
measured file l checked =
    let ok = sym checked.verdict in
    let laid = checked.layout in
    let n = laid.workers in
    let most = few-workers file ok in
    let first = laid.firsts 0 (omega arith) in
    let last = laid.firsts l.workers (omega arith) ∙ ap (λ (w : ℕ). first_in (records file) w) n in
    record {
      ok = ok;
      workers = n;
      some = omega (arith, some-workers file ok);
      most = omega arith;
      counted = omega (arith, steps-counted file ok);
      few = omega (arith, steps-few file ok);
    }

-- ---- the cycles, turn by turn

cycle-at : (n k i : ℕ) → i < k * n → get_or (cycles n k) i 0 ≡ i % n
unfolding cycles
cycle-at n zero i h = absurd (omega (arith, nat.zero-mul n))
cycle-at n (suc k) i h =
    elim (dec_lt i n) [
      | yes l ↦
          get_or-append (up_to n) (cycles n k) 0 i (omega (arith, length-count_from n 0))
          ∙ (get_or-count_from n 0 i 0 l ∙ (omega arith ∙ sym (nat.mod-eq_of_lt l)))
      | no l ↦
          let there : length (up_to n) + (i - n) ≡ i = let e = length-count_from n 0 in omega arith in
          ap (λ (j : ℕ). get_or (up_to n ++ cycles n k) j 0) (sym there)
          ∙ (get_or-append-add (up_to n) (cycles n k) (i - n) 0
          ∙ (cycle-at n k (i - n) (omega (arith, nat.suc-mul k n))
          ∙ sym (nat.mod-eq-sub-mod (omega arith))))
    ]

whole-listed : (file turns : List ℕ) (steps n : ℕ) → check file ≡ accepted → n ≡ workers_in (records file) → steps ≡ step_count (plan_of file)
    → length turns ≡ turn_count steps n
    → ((i : ℕ) → i < length turns → get_or turns i 0 ≡ i % n)
    → turns ≡ listed_turns (plan_of file)
whole-listed file turns steps n ok same_n same_steps long each =
    ext_get_or 0 turns (cycles n (2 * (steps + n))) (long ∙ sym (length-cycles n (2 * (steps + n))))
    (λ i h. each i h ∙ sym (cycle-at n (2 * (steps + n)) i (subst (λ (k : ℕ). i < k) long h)))
    ∙ (ap (λ (w : ℕ). cycles w (2 * (steps + w))) workers ∙ ap (λ (s : ℕ). cycles (workers_of (plan_of file)) (2 * (s + workers_of (plan_of file)))) same_steps)
  where
    workers : n ≡ workers_of (plan_of file)
    workers = same_n ∙ sym (workers-of (records file) (accepted-file file ok).records)

-- the turns that were written, by the numbers of the layout
pub all_listed : (file turns : List ℕ) (l : Layout) → Measured file l
    → length turns ≡ turn_count (get_or l.firsts l.workers 0 - get_or l.firsts 0 0) l.workers
    → ((i : ℕ) → i < length turns → get_or turns i 0 ≡ i % l.workers)
    → turns ≡ turns_by (check file) file
all_listed file turns l s long each =
    whole-listed file turns _ l.workers s.ok s.workers (omega (arith, s.counted)) long each ∙ sym (ap (λ (v : Verdict). turns_by v file) s.ok)
