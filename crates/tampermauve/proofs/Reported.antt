-- The report from the code's numbers is the report of the state that they show.
use Prim.Native.Nat.{ℕ, suc, ◌+◌, ◌<◌}
use mathlib.Core.Bool.{Bool, cond, ◌&&◌}
use mathlib.Core.Path.{◌≡◌, refl, sym, ap, ◌∙◌}
use mathlib.Core.List.{List, [], ◌∷◌, ◌++◌, map}
use native.Mathlib.Omega.{arith}
use native.Mathlib.Decide.{dec_lt}
use borrow.Author.Tests.{lt-ltb, le-ltb, lt-leb, le-leb, ne_eqb}
use lib.ListN.{length, get_or}
use Rattle.protocol.specs.Format.{workers_limit, up_to}
use Rattle.protocol.specs.Steps.{on_condition, at_barrier, Fate, going, exited, failed, asleep, waiting, Worker, new_worker}
use Rattle.protocol.specs.Rounds.{State, worker_at}
use Rattle.protocol.specs.Turns.{none_left}
use Rattle.protocol.specs.Sum.{sum_of}
use Rattle.protocol.specs.Report.{two_bytes, four_bytes, under_way, finished, stuck, is_final, all_final, end_of, end_number, fate_number, fate_byte, report_bytes}
use Rattle.rules.specs.Codes.{fate_code}
use Rattle.format.specs.Fates.{code_exited, code_asleep}
use Rattle.journal.specs.Bytes.{shown_by, shown, report_of}
use Rattle.ending.specs.Ending.{code_final, all_over, end_by}

shown-fate : (f : Fate) → shown_by (fate_code f) ≡ fate_number f
shown-fate going = refl
shown-fate exited = refl
shown-fate failed = refl
shown-fate asleep = refl
shown-fate (waiting (on_condition c)) =
    let code = fate_code (waiting (on_condition c)) in
    simp (le-ltb code code_asleep (omega arith), ne_eqb code code_asleep (λ e. omega arith)) (omega arith)
shown-fate (waiting (at_barrier b)) =
    let code = fate_code (waiting (at_barrier b)) in
    simp (le-ltb code code_asleep (omega arith), ne_eqb code code_asleep (λ e. omega arith)) (omega arith)

final-fate : (f : Fate) → code_final (fate_code f) ≡ is_final f
final-fate going = refl
final-fate exited = refl
final-fate failed = refl
final-fate asleep = refl
final-fate (waiting (on_condition c)) =
    let code = fate_code (waiting (on_condition c)) in
    simp (le-ltb code code_exited (omega arith), lt-ltb code_asleep code (omega arith))
final-fate (waiting (at_barrier b)) =
    let code = fate_code (waiting (at_barrier b)) in
    simp (le-ltb code code_exited (omega arith), lt-ltb code_asleep code (omega arith))

all-over : (fates : List ℕ) (vs : List Worker) (w : ℕ)
    → ((i : ℕ) → i < length vs → get_or fates (w + i) 0 ≡ fate_code (get_or vs i new_worker).fate)
    → all_over fates (length vs) w ≡ all_final vs
unfolding all_over all_final
all-over fates [] w same = refl
all-over fates (v ∷ vs) w same =
    ap (λ (b : Bool). b && all_over fates (length vs) (suc w)) (ap code_final here ∙ final-fate v.fate)
    ∙ ap (λ (b : Bool). is_final v.fate && b) (all-over fates vs (suc w) rest)
  where
    here : get_or fates w 0 ≡ fate_code v.fate
    here = ap (λ (k : ℕ). get_or fates k 0) (let e : w ≡ w + 0 = omega arith in e) ∙ same 0 (omega arith)

    rest : (i : ℕ) → i < length vs → get_or fates (suc w + i) 0 ≡ fate_code (get_or vs i new_worker).fate
    rest i h = ap (λ (k : ℕ). get_or fates k 0) (let e : suc w + i ≡ w + suc i = omega arith in e) ∙ same (suc i) (omega arith)

map_same : (f g : ℕ → ℕ) (ws : List ℕ) → ((w : ℕ) → f w ≡ g w) → map f ws ≡ map g ws
map_same f g [] same = refl
map_same f g (w ∷ ws) same =
    ap (λ (k : ℕ). k ∷ map f ws) (same w) ∙ ap (λ (ks : List ℕ). g w ∷ ks) (map_same f g ws same)

module _ (s : State) (n : ℕ) (fates : List ℕ) (size : length s.workers ≡ n)
    (same : (w : ℕ) → w < n → get_or fates w 0 ≡ fate_code (worker_at s w).fate) where
  fate-byte : (w : ℕ) → shown n w (get_or fates w 0) ≡ fate_byte s w
  unfolding fate_byte
  fate-byte w = elim (dec_lt w n) [
    | yes h ↦ simp (lt-leb n w h, lt-ltb w (length s.workers) (omega (arith, size, h)), same w h) (shown-fate (worker_at s w).fate)
    | no h ↦ simp (le-leb n w (omega arith), le-ltb w (length s.workers) (omega (arith, size, h)))
  ]

  end-number : end_by s.list fates n ≡ end_number (end_of s)
  unfolding end_of
  end-number =
      ap (λ (b : Bool). end_number (cond (none_left s.list) (cond b finished stuck) under_way)) over
    where
      over : all_over fates n 0 ≡ all_final s.workers
      over =
          ap (λ (k : ℕ). all_over fates k 0) (sym size)
          ∙ all-over fates s.workers 0 (λ i h. ap (λ (k : ℕ). get_or fates k 0) (let e : 0 + i ≡ i = omega arith in e) ∙ same i (omega (arith, size, h)))

  pub report-same : report_of (end_by s.list fates n) n (record { moves = s.moves; rounds = s.rounds; records = length s.log }) fates (sum_of s.memory)
      ≡ report_bytes s
  unfolding report_of report_bytes
  report-same =
      ap (λ (e : ℕ). e ∷ n ∷ counts (map (λ w. shown n w (get_or fates w 0)) (up_to workers_limit))) end-number
      ∙ (ap (λ (k : ℕ). end_number (end_of s) ∷ k ∷ counts (map (λ w. shown n w (get_or fates w 0)) (up_to workers_limit))) (sym size)
      ∙ ap (λ (bs : List ℕ). end_number (end_of s) ∷ length s.workers ∷ counts bs)
      (map_same (λ w. shown n w (get_or fates w 0)) (λ w. fate_byte s w) (up_to workers_limit) fate-byte))
    where
      counts : List ℕ → List ℕ
      counts bs = two_bytes s.moves ++ (two_bytes s.rounds ++ (two_bytes (length s.log) ++ (bs ++ four_bytes (sum_of s.memory))))
