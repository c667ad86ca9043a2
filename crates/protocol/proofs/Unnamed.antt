-- Seven: bytes that nobody named. A run from another memory is the same run with each byte that nobody named, in shared memory, working copies
-- and twins, taken from that memory. So the two runs stand side by side; and a run that stands beside itself has left those bytes as they were.
-- Assumes nothing.
use Prim.Native.Nat.{ℕ, zero, suc, ◌+◌, ◌/◌, ◌%◌}
use native.Mathlib.Omega.{arith}
use native.Mathlib.Decide.{dec_lt}
use mathlib.Core.Bool.{Bool, true, false, ◌||◌, true≢false}
use mathlib.Core.Path.{◌≡◌, refl, sym, ap, ◌∙◌}
use mathlib.Core.List.{List, [], ◌∷◌}
use borrow.Author.Tests.{eq-eqb}
use lib.ListN.{length, get_or, get_or-eq_default}
use Rattle.protocol.specs.Format.{Own, assign, load, store, add, subtract, skip_zero, skip_nonzero, exit, Step, sync, Plan, count_from}
use Rattle.protocol.specs.Refusals.{any_of}
use Rattle.protocol.specs.Pages.{Copies, no_copies, load_word, store_byte, store_word}
use Rattle.protocol.specs.Steps.{Worker, own_step, step_at}
use Rattle.protocol.specs.Rounds.{State, worker_at}
use Rattle.protocol.specs.Turns.{start, can, move}
use Rattle.protocol.specs.Report.{end_of, fate_byte, report_bytes, but_for_sum}
use Rattle.protocol.specs.Calls.{played_from}
use Rattle.protocol.specs.Named.{word_covers, own_covers, covers, named, SameNamed}
use Rattle.protocol.specs.Demands.{UnnamedKept, SameButUnnamed}
use Rattle.protocol.proofs.Bools.{split, or-holds, or-true}
use Rattle.protocol.proofs.Paired.{PairedWorker, new-paired, paired-kept}
use Rattle.protocol.proofs.OtherBytes.{byte_by, bytes_by, copies_by, byte-unnamed, named-from, load-alike, store-alike, commit-alike}
use Rattle.protocol.proofs.Placed.{each_from, each-inside, each-is}
use Rattle.protocol.proofs.EachWorker.{AllWorkers, all_moved, all_first}
use Rattle.protocol.proofs.Redrawn.{Redrawing, drawn, state_as, redrawn, same-can, move-redrawn, start-redrawn, same-report}
use Rattle.protocol.proofs.Sums.{sums-balance}
use Rattle.protocol.proofs.Sizes.{play-size}
use Rattle.protocol.proofs.Obeys.{machine, same-play}
use Rattle.protocol.proofs.SideBySide.{SideBySide, side_by_side}

-- ---- what a plan's steps name

any_at : {A : Type 0} (t : A → Bool) (xs : List A) (i : ℕ) (d : A) → t d ≡ false → t (get_or xs i d) ≡ true → any_of t xs ≡ true
unfolding any_of
any_at t [] i d miss hit = absurd (true≢false (sym hit ∙ miss))
any_at t (x ∷ xs) zero d miss hit = ap (λ (b : Bool). b || any_of t xs) hit
any_at t (x ∷ xs) (suc i) d miss hit = or-holds (t x) (any_at t xs i d miss hit)

step-names : (plan : Plan) (w k a : ℕ) → covers (step_at plan w k) a ≡ true → named plan a ≡ true
unfolding named any_of
step-names plan w k a hit =
    any_at (λ (ss : List Step). any_of (λ s. covers s a) ss) plan.steps w [] refl
    (any_at (λ (s : Step). covers s a) (get_or plan.steps w []) k (sync exit) refl hit)

this-covered : (a : ℕ) → word_covers a a ≡ true
this-covered a = rw (eq-eqb a a refl)

next-covered : (a : ℕ) → word_covers a (a + 1) ≡ true
next-covered a = rw (eq-eqb (a + 1) (a + 1) refl, or-true)

module _ (plan : Plan) (other : List ℕ) where
  -- ---- own steps

  none-copied : copies_by plan other no_copies ≡ no_copies
  unfolding no_copies each_from
  none-copied = refl

  abbrev drawing : Redrawing
  drawing = record { memory = bytes_by plan other 0; held = λ held. held; copies = copies_by plan other; none_held = refl; none_copied = none-copied }

  module _ (memory : List ℕ) (v : Worker) where
    load_word-alike : (a : ℕ) → named plan a ≡ true → named plan (a + 1) ≡ true → load_word (bytes_by plan other 0 memory) (copies_by plan other v.copies) a ≡ load_word memory v.copies a
    unfolding load_word
    load_word-alike a hit next = rw (load-alike plan other memory v.copies a hit, load-alike plan other memory v.copies (a + 1) next)

    store_word-alike : (a number : ℕ) → named plan a ≡ true → named plan (a + 1) ≡ true
        → store_word (bytes_by plan other 0 memory) (copies_by plan other v.copies) a number ≡ copies_by plan other (store_word memory v.copies a number)
    unfolding store_word
    store_word-alike a number hit next =
        ap (λ (copies : Copies). store_byte (bytes_by plan other 0 memory) copies (a + 1) (number / 256)) (store-alike plan other memory v.copies a (number % 256) hit)
        ∙ store-alike plan other memory (store_byte memory v.copies a (number % 256)) (a + 1) (number / 256) next

    own-alike : (o : Own) → ((a : ℕ) → own_covers o a ≡ true → named plan a ≡ true)
        → own_step (bytes_by plan other 0 memory) o (drawn drawing v) ≡ drawn drawing (own_step memory o v)
    unfolding own_step
    own-alike (assign r k) hit = refl
    own-alike (load r a) hit = rw (load_word-alike a (hit a (this-covered a)) (hit (a + 1) (next-covered a)))
    own-alike (store r a) hit = rw (store_word-alike a _ (hit a (this-covered a)) (hit (a + 1) (next-covered a)))
    own-alike (add r q) hit = refl
    own-alike (subtract r q) hit = refl
    own-alike (skip_zero r k) hit = refl
    own-alike (skip_nonzero r k) hit = refl

  -- ---- the two runs, side by side

  abbrev Beside : State → State → Type 0
  Beside s t = (t ≡ redrawn drawing s) × AllWorkers PairedWorker s

  move-alike : (s : State) (w : ℕ) → AllWorkers PairedWorker s → move plan (redrawn drawing s) w ≡ redrawn drawing (move plan s w)
  move-alike s w all =
      move-redrawn drawing plan plan.locks s w
      (λ o e. own-alike s.memory (worker_at s w) o
      (λ a hit. step-names plan w (worker_at s w).place a (ap (λ (t : Step). covers t a) e ∙ hit)))
      (λ y e b. refl) (commit-alike plan other (worker_at s w).copies 0 s.memory (all w))

  unnamed-laws : SideBySide (machine plan) (machine plan) Beside (λ s. Unit {0})
  unnamed-laws =
      record {
        able = λ s t w beside. ap (λ (u : State). can u w) beside.0 ∙ same-can drawing s w;
        moved = λ s t w beside c f.
            (ap (λ (u : State). move plan u w) beside.0 ∙ move-alike s w beside.1, all_moved (paired-kept plan) s w beside.1);
        before = λ s w c f. tt;
      }

  -- the memories differ in such bytes alone: one is the other with them in their places
  other-memory : (memory : List ℕ) → SameNamed plan memory other → other ≡ bytes_by plan other 0 memory
  other-memory memory same =
      each-is (byte_by plan other) 0 memory other 0 (sym same.size) (λ a. go a ∙ ap (λ (k : ℕ). byte_by plan other k (get_or memory a 0)) (omega arith))
    where
      go : (a : ℕ) → get_or other a 0 ≡ byte_by plan other a (get_or memory a 0)
      go a = split (named plan a) (λ hit. rw hit (sym (same.bytes a hit))) (λ miss. rw miss)

  played-beside : (memory turns : List ℕ) → SameNamed plan memory other → played_from plan other turns ≡ redrawn drawing (played_from plan memory turns)
  played-beside memory turns same =
      same-play plan (start plan other) turns
      ∙ (side_by_side unnamed-laws (start plan memory) (start plan other) turns
      (ap (start plan) (other-memory memory same) ∙ start-redrawn drawing plan plan.locks memory, all_first (paired-kept plan) new-paired memory)
      tt).0
      ∙ ap (redrawn drawing) (sym (same-play plan (start plan memory) turns))

-- ---- the claims, of every plan, memory and list of turns

module _ (plan : Plan) (memory turns : List ℕ) where
  left-size : length (played_from plan memory turns).memory ≡ length memory
  unfolding start
  left-size = play-size plan (start plan memory) turns

  -- the run beside itself
  itself : (played_from plan memory turns).memory ≡ bytes_by plan memory 0 (played_from plan memory turns).memory
  itself = ap (λ (s : State). s.memory) (played-beside plan memory memory turns (record { size = refl; bytes = λ a hit. refl }))

  pub unnamed-kept : UnnamedKept plan memory (played_from plan memory turns).memory
  unnamed-kept a miss =
      elim (dec_lt a (length (played_from plan memory turns).memory)) [
        | yes h ↦
            ap (λ (bytes : List ℕ). get_or bytes a 0) itself
            ∙ each-inside (byte_by plan memory) 0 (played_from plan memory turns).memory a 0 h
            ∙ byte-unnamed plan memory (0 + a) _ (ap (named plan) (omega arith) ∙ miss)
            ∙ ap (λ (k : ℕ). get_or memory k 0) (omega arith)
        | no h ↦
            let size = left-size in
            get_or-eq_default (played_from plan memory turns).memory 0 {n = a} (omega arith)
            ∙ sym (get_or-eq_default memory 0 {n = a} (omega arith))
      ]

same-but-sum : (memory : List ℕ) (s : State) → but_for_sum (report_bytes (state_as memory s.workers s)) ≡ but_for_sum (report_bytes s)
unfolding report_bytes end_of fate_byte count_from
same-but-sum memory s = refl

module _ (plan : Plan) (memory other turns : List ℕ) (same : SameNamed plan memory other) where
  abbrev first : State
  first = played_from plan memory turns

  abbrev second : State
  second = played_from plan other turns

  side : played_from plan other turns ≡ redrawn (drawing plan other) (played_from plan memory turns)
  side = played-beside plan other memory turns same

  elsewhere : (a : ℕ) → get_or memory a 0 ≡ get_or other a 0 → get_or (played_from plan memory turns).memory a 0 ≡ get_or (played_from plan other turns).memory a 0
  elsewhere a e = split (named plan a)
      (λ hit. sym (ap (λ (s : State). get_or s.memory a 0) side ∙ named-from plan other a first.memory hit))
      (λ miss. unnamed-kept plan memory turns a miss ∙ e ∙ sym (unnamed-kept plan other turns a miss))

  -- byte by byte the two differ by what they differed by
  balance : (a : ℕ) → get_or (played_from plan memory turns).memory a 0 + get_or other a 0 ≡ get_or (played_from plan other turns).memory a 0 + get_or memory a 0
  balance a = split (named plan a)
      (λ hit. let e = same.bytes a hit in let f = elsewhere a e in omega arith)
      (λ miss. let e = unnamed-kept plan memory turns a miss in let f = unnamed-kept plan other turns a miss in omega arith)

  pub same-but-unnamed : SameButUnnamed memory other (played_from plan memory turns) (played_from plan other turns)
  same-but-unnamed =
      record {
        log = sym (ap (λ (s : State). s.log) side);
        report =
            sym (ap (λ (s : State). but_for_sum (report_bytes s)) side
            ∙ (ap but_for_sum (same-report (drawing plan other) first) ∙ same-but-sum ((drawing plan other).memory first.memory) first));
        elsewhere = elsewhere;
        sums = sums-balance first.memory other second.memory memory balance;
      }
