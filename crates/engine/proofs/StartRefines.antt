-- The values at first refine the start of round 1.
use Prim.Native.Nat.{ℕ, ◌*◌, ◌<◌, ◌≤◌}
use native.Mathlib.Omega.{arith}
use mathlib.Core.Bool.{Bool, true, false, not}
use mathlib.Core.Path.{◌≡◌, refl, sym, ap, ◌∙◌, subst⁻¹}
use mathlib.Core.List.{List, [], ◌∷◌}
use Rattle.std.proofs.lemmas.List.{get_or-replicate}
use lib.Dec.{eqb}
use lib.ListN.{length, get_or, take, replicate, length-replicate}
use Rattle.protocol.specs.Format.{workers_limit, Plan, up_to}
use Rattle.protocol.specs.Pages.{Copies}
use Rattle.protocol.specs.Steps as steps
use Rattle.protocol.specs.Steps.{Fate, new_worker}
use Rattle.protocol.specs.Rounds.{worker_at, member}
use Rattle.protocol.specs.Turns.{workers_of, sleeps, first_fate, first_worker, start, can}
use Rattle.protocol.specs.Report.{entry_length, log_bytes}
use Rattle.protocol.specs.Calls.{log_length}
use Rattle.protocol.proofs.Bools.{or-fails}
use Rattle.protocol.proofs.Lists.{get_or-copies, mapped}
use Rattle.protocol.proofs.Laws.{start-worker}
use Rattle.plan.specs.Sleeping.{first_code, FirstFates}
use Rattle.rules.proofs.Found.{keep_same}
use Rattle.pages.specs.Copies.{Lent, copies_in, slot_count}
use Rattle.pages.proofs.Slots.{unmarked}
use Rattle.worker.specs.Private.{viewed}
use Rattle.worker.specs.declared.Worker.{Worker}
use Rattle.locks.specs.Set.{Shows}
use Rattle.locks.proofs.Sets.{no-lock}
use Rattle.rules.specs.Codes.{fate_code}
use Rattle.engine.specs.declared.state.Schedule.{Schedule}
use Rattle.engine.specs.Kept.{Kept, kept, private_of}
use Rattle.engine.specs.Refines.{Refines}
use Rattle.engine.specs.Turning.{awake, RoundBegun}
use Rattle.engine.proofs.CanMove.{can-fence, away-all, raised-length, raised_at}
use Rattle.engine.proofs.Parts.{as-viewed}
use Rattle.engine.proofs.Playing.{up-to-below}

-- no register has a number
abbrev pub zeros : List ℕ
zeros = 0 ∷ 0 ∷ 0 ∷ 0 ∷ []

-- an entry of zero for each worker, and no copy
abbrev pub none : List ℕ
none = replicate workers_limit 0

abbrev pub start_kept : (fates : List ℕ) (can : List Bool) (memory log work : List ℕ) → Kept
start_kept fates can memory log work = kept none none (replicate workers_limit zeros) fates can (replicate slot_count false) memory log work

module _ (plan : Plan) {t : Schedule} {marks : List Bool} (fates memory log work : List ℕ) (few : workers_of plan ≤ workers_limit)
    (first : FirstFates plan.sleepers fates) (begun : RoundBegun (workers_of plan) fates (replicate workers_limit false) memory t marks)
    (sizes : Lent memory work) (room : length log ≡ log_length) where
  abbrev k : Kept
  k = start_kept fates marks memory log work

  late : (w : ℕ) → (worker_at (start plan memory) w).arrived ≡ false
  unfolding new_worker
  late w = start-worker plan memory w (λ x. x.arrived ≡ false) (λ l. refl) (λ l. refl)

  -- a worker's fate, and its code
  abbrev fate : ℕ → Fate
  fate w = first_fate (sleeps plan w)

  coded : (b : Bool) → first_code b ≡ fate_code (first_fate b)
  coded true = refl
  coded false = refl

  fate-code : (w : ℕ) → w < workers_of plan → get_or fates w 0 ≡ fate_code (fate w)
  fate-code w l = first.right w (omega arith) ∙ coded (sleeps plan w)

  -- round 1's list
  going-code : (b : Bool) → eqb (first_code b) 0 ≡ not b
  going-code true = refl
  going-code false = refl

  awake-same : awake (workers_of plan) fates ≡ (start plan memory).list
  unfolding start
  awake-same =
      keep_same (λ w. eqb (get_or fates w 0) 0) (λ w. not (sleeps plan w)) (up_to (workers_of plan))
      (λ w m. ap (λ (c : ℕ). eqb c 0) (first.right w (up-to-below few refl w m)) ∙ going-code (sleeps plan w))

  abbrev blank : ℕ → List ℕ → Worker
  blank i numbers = record { place = i; held = i; registers = numbers }

  view : (w : ℕ) → w < workers_of plan → worker_at (start plan memory) w ≡ viewed (private_of k w) [] false (copies_in (replicate slot_count false) work w) (fate w)
  unfolding new_worker start
  view w l =
      mapped (first_worker plan) (workers_of plan) w new_worker l
      ∙ ap (λ (cs : Copies). viewed (blank 0 zeros) [] false cs (fate w)) (sym (unmarked slot_count work w))
      ∙ ap (λ (numbers : List ℕ). viewed (blank 0 numbers) [] false (copies_in (replicate slot_count false) work w) (fate w))
      (sym (get_or-replicate workers_limit w zeros [] (omega (arith, l, few))))
      ∙ ap (λ (i : ℕ). viewed (blank i (get_or (replicate workers_limit zeros) w [])) [] false (copies_in (replicate slot_count false) work w) (fate w)) (sym (get_or-copies 0 workers_limit w))

  no-locks : (w : ℕ) → w < workers_of plan → Shows (get_or none w 0) (worker_at (start plan memory) w).held
  no-locks w l =
      subst⁻¹ (λ (i : ℕ). Shows i (worker_at (start plan memory) w).held) (get_or-copies 0 workers_limit w)
      (subst⁻¹ (λ (x : steps.Worker). Shows 0 x.held) (view w l) no-lock)

  able : (u : ℕ) → u < workers_limit → get_or marks u false ≡ can (start plan memory) u
  able u l =
      ap (λ (m : List Bool). get_or m u false) begun.marks
      ∙ raised_at (awake (workers_of plan) fates) (replicate workers_limit false) u l
      ∙ or-fails (member u (awake (workers_of plan) fates)) (get_or-copies false workers_limit u)
      ∙ ap (λ (ws : List ℕ). member u ws) awake-same
      ∙ sym (can-fence (start plan memory) u (λ w m. late w))

  pub start-refines : Refines (workers_of plan) (start plan memory) t k
  unfolding start log_bytes
  start-refines =
      record {
        entries =
            record {
              places = refl;
              held = refl;
              registers = refl;
              fates = first.size;
              can = ap length begun.marks ∙ raised-length (awake (workers_of plan) fates) (replicate workers_limit false);
            };
        bytes = record { shared = refl; worker = λ w l. as-viewed (private_of k w) (view w l); locks = no-locks; sizes = sizes; marks = length-replicate slot_count false };
        lists = record {
          list = begun.list ∙ awake-same;
          next = begun.next;
          waiting = begun.waiting;
          away =
              begun.away ∙ ap length awake-same
              ∙ sym (away-all (start plan memory) (start plan memory).list (λ w m. late w));
          fates = λ w l. fate-code w l ∙ sym (ap (λ (x : steps.Worker). fate_code x.fate) (view w l));
          able = able;
        };
        log = record {
          count = sym begun.records;
          bytes = ap (λ (i : ℕ). take (entry_length * i) log) begun.records;
          size = room;
        };
        moves = sym begun.moves;
        rounds = sym begun.rounds;
        sum = begun.sum;
      }
