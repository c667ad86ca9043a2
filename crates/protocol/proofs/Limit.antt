-- The limit on turns that move, in the file's terms: "Steps, in the limit on turns, are the step records of the file."
use Prim.Native.Nat.{ℕ, zero, suc, ◌+◌, ◌*◌, ◌<◌, ◌≤◌}
use mathlib.Core.Bool.{Bool, true, false, cond, ◌&&◌}
use mathlib.Core.Path.{◌≡◌, refl, sym, ap, ◌∙◌}
use mathlib.Core.List.{List, [], ◌∷◌, map}
use native.Mathlib.Omega.{arith}
use native.Mathlib.Decide.{ℕ_discrete}
use lib.Dec.{eqb}
use lib.ListN.{length}
use borrow.Author.Tests.{eq-eqb, ne_eqb}
use Rattle.protocol.specs.Format.{Record, is_step, is_step_of, step_of, steps_in, step_records, count_from, up_to, workers_in, records, plan_in, plan_of}
use Rattle.protocol.specs.Refusals.{accepted, check}
use Rattle.protocol.specs.RoundRun.{total, step_count, move_limit}
use Rattle.protocol.specs.WellFormed.{record_at}
use Rattle.protocol.proofs.Bools.{split}
use Rattle.protocol.proofs.Accepted.{accepted-file, workers-of}
use Rattle.protocol.proofs.Formed.{is-step, well-formed}

-- of the k workers from i on, how many have this record among their steps: it is one's or nobody's
unfoldable hits : Record → ℕ → ℕ → ℕ
hits r zero i = 0
hits r (suc k) i = cond (is_step_of i r) 1 0 + hits r k (suc i)

total-cons : (r : Record) (rs : List Record) (k i : ℕ)
    → total (map (λ w. steps_in (r ∷ rs) w) (count_from k i)) ≡ hits r k i + total (map (λ w. steps_in rs w) (count_from k i))
unfolding total count_from hits steps_in
total-cons r rs zero i = refl
total-cons r rs (suc k) i = let rest = total-cons r rs k (suc i) in let h = here (is_step_of i r) in omega arith
  where
    here : (b : Bool) → length (cond b (step_of r ∷ steps_in rs i) (steps_in rs i)) ≡ cond b 1 0 + length (steps_in rs i)
    here true = omega arith
    here false = omega arith

no_hit : (r : Record) (k i : ℕ) → (is_step r ≡ true → r.worker < i) → hits r k i ≡ 0
unfolding hits
no_hit r zero i f = refl
no_hit r (suc k) i f =
    let rest = no_hit r k (suc i) (λ s. let l = f s in omega arith) in
    split (is_step r)
    (λ s. ap (λ (b : Bool). cond (b && eqb r.worker i) 1 0 + hits r k (suc i)) s
    ∙ (ap (λ (b : Bool). cond b 1 0 + hits r k (suc i)) (ne_eqb r.worker i (λ e. let l = f s in omega arith)) ∙ omega arith))
    (λ s. ap (λ (b : Bool). cond (b && eqb r.worker i) 1 0 + hits r k (suc i)) s ∙ omega arith)

one_hit : (r : Record) (k i : ℕ) → is_step r ≡ true → i ≤ r.worker → r.worker < i + k → hits r k i ≡ 1
unfolding hits
one_hit r zero i s l h = absurd (omega arith)
one_hit r (suc k) i s l h =
    ap (λ (b : Bool). cond (b && eqb r.worker i) 1 0 + hits r k (suc i)) s
    ∙ elim (ℕ_discrete r.worker i) [
      | yes e ↦ ap (λ (b : Bool). cond b 1 0 + hits r k (suc i)) (eq-eqb r.worker i e) ∙ (let rest = no_hit r k (suc i) (λ t. omega arith) in omega arith)
      | no e ↦ ap (λ (b : Bool). cond b 1 0 + hits r k (suc i)) (ne_eqb r.worker i e) ∙ (let rest = one_hit r k (suc i) s (omega arith) (omega arith) in omega arith)
    ]

none-counted : (k i : ℕ) → total (map (λ w. steps_in [] w) (count_from k i)) ≡ 0
unfolding total count_from steps_in
none-counted zero i = refl
none-counted (suc k) i = omega (arith, none-counted k (suc i))

counted : (n : ℕ) (rs : List Record) → ((j : ℕ) → j < length rs → is_step (record_at rs j) ≡ true → (record_at rs j).worker < n)
    → total (map (λ w. steps_in rs w) (up_to n)) ≡ step_records rs
unfolding step_records
counted n [] f = none-counted n 0
counted n (r ∷ rs) f =
    let rest = counted n rs (λ j h s. f (suc j) (omega arith) s) in
    let cons = total-cons r rs n 0 in
    split (is_step r)
    (λ s. let one = one_hit r n 0 s (omega arith) (let l = f 0 (omega arith) s in omega arith) in
    let first = ap (λ (b : Bool). cond b 1 0 + step_records rs) s in
    omega arith)
    (λ s. let none_of = no_hit r n 0 (λ t. absurd (let z : ◌≡◌ {A = ℕ} 1 0 = ap (λ (b : Bool). cond b 1 0) (sym t ∙ s) in omega arith)) in
    let first = ap (λ (b : Bool). cond b 1 0 + step_records rs) s in
    omega arith)

-- The steps of an accepted file's plan are its step records.
pub steps-of-file : (file : List ℕ) → check file ≡ accepted → step_count (plan_of file) ≡ step_records (records file)
unfolding plan_in
steps-of-file file ok =
    counted (workers_in (records file)) (records file) (λ j h s. (is-step (records file) ((well-formed file).0 ok).formed j h s).worker)

-- So the limit is 2 × (step records + workers).
pub limit-of-file : (file : List ℕ) → check file ≡ accepted
    → move_limit (plan_of file) ≡ 2 * (step_records (records file) + workers_in (records file))
limit-of-file file ok =
    let steps = steps-of-file file ok in
    let workers = workers-of (records file) (accepted-file file ok).records in
    omega arith
