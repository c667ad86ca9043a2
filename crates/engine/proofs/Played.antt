-- The turns of a run: those up to one that synchronises, that one, and so on; and, in a run to the end, which turn is next.
use Prim.Native.Nat.{ℕ, suc, ◌+◌, ◌-◌, ◌*◌, ◌≤◌, ◌<◌}
use native.Mathlib.Numerals.{add-one}
use native.Mathlib.Omega.{arith}
use native.Mathlib.Decide.{ℕ_discrete}
use mathlib.Core.Bool.{Bool, true, false, cond, false≢true}
use mathlib.Core.Path.{◌≡◌, refl, sym, ap, ◌∙◌, subst, subst⁻¹}
use mathlib.Core.List.{List, [], ◌∷◌, ◌++◌}
use borrow.Author.Tests.{ltb-true, lt-ltb}
use lib.Dec.{ltb}
use lib.ListN.{length, get_or, take, replicate, take-append-drop}
use lib.Seq.{slice, slice-cons, take_all, take-suc, take-take}
use Rattle.protocol.specs.Format.{workers_limit, plan_in, plan_of}
use Rattle.protocol.specs.Rounds.{State}
use Rattle.protocol.specs.Turns.{workers_of, start, play, none_left, ended}
use Rattle.protocol.specs.Calls.{played_from}
use Rattle.protocol.proofs.Bools.{split}
use Rattle.protocol.proofs.Counting.{clash}
use Rattle.protocol.proofs.Laws as laws
use Rattle.protocol.proofs.Laws.{start-inv, counts}
use Rattle.protocol.proofs.Obeys.{play-inv, play-append, rest-passes}
use Rattle.protocol.proofs.Sums.{sum_kept}
use Rattle.plan.specs.declared.decode.Record.{Record}
use Rattle.queue.proofs.Laws.{below-first}
use Rattle.engine.specs.declared.state.Schedule.{Schedule}
use Rattle.engine.specs.declared.state.Reached.{Reached}
use Rattle.engine.specs.declared.state.Engine.{Engine}
use Rattle.engine.specs.Kept.{Kept}
use Rattle.engine.specs.Kept.{kept_of, kept_own}
use Rattle.engine.specs.Refines.{Refines}
use Rattle.engine.specs.Moving.{Syncing, Synced}
use Rattle.engine.specs.Turning.{RoundBegun, Playing, Turning, Stopped, Turned, Onward, Again, moves_as, Over, PlayedOut}
use Rattle.engine.proofs.Facts.{list-below}
use Rattle.engine.proofs.Rising.{play-keeps, play-adds}
use Rattle.engine.proofs.Playing.{plan-sound, moves-fit, can-same, able-here, moved}
use Rattle.engine.proofs.StartRefines.{start_kept, start-refines}

-- what stands before turn i: what the turns that were played leave, in a list its first i
pub record PlayedSoFar (file turns : List ℕ) (whole : Bool) (start : List ℕ) (i : ℕ) (t : Schedule) (k : Kept) : Type 0 where
  pub within : i ≤ length turns
  pub played : List ℕ
  pub listed : whole ≡ false → played ≡ take i turns
  pub refines : Refines (workers_of (plan_of file)) (played_from (plan_of file) start played) t k

-- what stands where the next turn has been found: in a run to the end there is one, or nobody can move
pub record Standing (file turns : List ℕ) (whole : Bool) (start : List ℕ) (i : ℕ) (t : Schedule) (k : Kept) : Type 0 where
  pub so : PlayedSoFar file turns whole start i t k
  pub nobody : whole ≡ true → length turns ≤ i → (w : ℕ) → w < workers_limit → get_or k.can w false ≡ false

-- 1 where turn i may pass, 0 where it moves or there is none
abbrev pub unpicked : List ℕ → List Bool → ℕ → ℕ
unpicked turns can i = cond (ltb i (length turns)) (cond (get_or can (get_or turns i 0) false) 0 1) 0

over : {file turns start : List ℕ} {t : Schedule} {k : Kept} → Refines (workers_of (plan_of file)) (played_from (plan_of file) start turns) t k
    → Over file turns start (record { schedule = t; fates = k.fates }) k.memory k.log k.work
over {file} {turns} {start} {k = k} shows =
    record { places = k.places; held = k.held; registers = k.registers; can = k.can; copied = k.copied; refines = shows; moved = shows.sum ∙ sym (sum_kept (plan_of file) start turns) }

pub some_left : {b : Bool} (ws : List ℕ) → b ≡ none_left ws → b ≡ false → 0 < length ws
some_left [] e f = clash (sym f ∙ e)
some_left (w ∷ ws) e f = omega arith

-- the first turns of a list, and those behind them up to another
pub taken : (turns : List ℕ) (i j : ℕ) → i ≤ j → take i turns ++ slice i j turns ≡ take j turns
taken turns i j h = ap (λ (us : List ℕ). us ++ slice i j turns) (sym (take-take i j turns h)) ∙ take-append-drop i (take j turns)

module _ {file : List ℕ} {n : ℕ} {sizes firsts first turns : List ℕ} {whole : Bool} {memory log work : List ℕ}
    (p : Playing file n sizes firsts first turns whole memory log work) where
  abbrev Shown : List ℕ → Schedule → Kept → Type 0
  Shown played t k = Refines (workers_of (plan_of file)) (played_from (plan_of file) memory played) t k

  pub begins : {t : Schedule} {can : List Bool} → RoundBegun n first (replicate workers_limit false) memory t can
      → PlayedSoFar file turns whole memory 0 t (start_kept first can memory log work)
  unfolding play plan_in
  begins {t} {can} begun =
      record {
        within = omega arith;
        played = [];
        listed = λ e. refl;
        refines =
            start-refines (plan_of file) first memory log work (plan-sound p.named).workers p.fates
            (subst (λ (i : ℕ). RoundBegun i first (replicate workers_limit false) memory t can) p.workers begun)
            p.bytes
            p.room;
      }

  -- the next turn is found, at this place
  found : {i j : ℕ} {t : Schedule} {k : Kept} → PlayedSoFar file turns whole memory i t k → (whole ≡ false → j ≡ i) → (whole ≡ true → j ≤ length turns)
      → PlayedSoFar file turns whole memory j t k
  found s listed within =
      record {
        within = split whole within (λ e. omega (arith, listed e, s.within));
        played = s.played;
        listed = λ e. s.listed e ∙ ap (λ (m : ℕ). take m turns) (sym (listed e));
        refines = s.refines;
      }

  -- behind a synchronising move
  pub goes_on : {i j : ℕ} {t : Schedule} {k : Kept} → PlayedSoFar file turns whole memory i t k → Onward whole i j → Standing file turns whole memory j t k
  goes_on s o = record {
    so = found s o.listed (λ e. omega (arith, (p.stretches e).size, o.within e));
    nobody = λ e l. absurd (omega (arith, (p.stretches e).size, o.within e, l));
  }

  -- behind the last turn
  pub goes-again : {i j : ℕ} {t : Schedule} {k : Kept} → PlayedSoFar file turns whole memory i t k → Again whole i k.can j → Standing file turns whole memory j t k
  goes-again s o = record {
    so = found s o.listed (λ e. let (w, at, able) = o.picked e in omega (arith, (p.stretches e).size, at, able.within));
    nobody = λ e l v h. let (w, at, able) = o.picked e in able.idle v (omega (arith, (p.stretches e).size, at, able.within));
  }

  -- where there is one, it moves
  pub again-moves : {i j : ℕ} {can : List Bool} → whole ≡ true → Again whole i can j → unpicked turns can j ≡ 0
  again-moves {i} {j} {can} e o = go (ltb j (length turns)) refl
    where
      go : (b : Bool) → ltb j (length turns) ≡ b → ◌≡◌ {A = ℕ} (cond b (cond (get_or can (get_or turns j 0) false) 0 1) 0) 0
      go false l = refl
      go true l =
          let (w, at, able) = o.picked e in
          let small : w < workers_limit = omega (arith, (p.stretches e).size, at, ltb-true j (length turns) l) in
          ap {B = ℕ} (λ (b : Bool). cond b 0 1)
          (ap (λ (v : ℕ). get_or can v false) (ap (λ (m : ℕ). get_or turns m 0) at ∙ (p.stretches e).first w small) ∙ able.able small)

  -- the turns up to one that synchronises
  module _ {i : ℕ} {t : Schedule} {g : Engine} {memory' log' work' : List ℕ} (s : PlayedSoFar file turns whole memory i t (kept_of g memory' log' work')) where
    unfoldable pub turning : Turning file firsts turns i t.counts.moves (kept_own g memory' work')
    turning =
        record {
          sizes = sizes;
          named = p.named;
          within = s.within;
          start = memory;
          before = s.played;
          schedule = t;
          counted = refl;
          fates = g.fates;
          log = log';
          refines = s.refines;
        }

    module _ {r : Reached} (g' : Engine) {work'' : List ℕ}
        (u : Turned file firsts turns i t.counts.moves (kept_own g memory' work') r (kept_own g' memory' work'')) where
      -- no move is taken back
      same-moves : (play (plan_of file) (played_from (plan_of file) memory s.played) (slice i r.turn turns)).moves ≡ r.moves
      unfolding turning
      same-moves =
          ap (λ (q : State). q.moves) (sym (play-append (plan_of file) (start (plan_of file) memory) s.played (slice i r.turn turns)))
          ∙ (u.refines turning).moves

      pub no-fewer : t.counts.moves ≤ r.moves
      no-fewer =
          omega (arith, play-keeps (plan_of file) (played_from (plan_of file) memory s.played) (slice i r.turn turns), same-moves, s.refines.moves)

      -- and the first turn adds one, where it can move
      pub one-at-least : i < r.turn → get_or g.can (get_or turns i 0) false ≡ true → t.counts.moves < r.moves
      one-at-least l e =
          omega (
            arith,
            play-adds (plan_of file) (played_from (plan_of file) memory s.played) (get_or turns i 0) (slice (suc i) r.turn turns)
                (can-same p.named memory s.played (get_or turns i 0) (p.named.below i (omega (arith, u.within))) s.refines e),
            ap (λ (us : List ℕ). (play (plan_of file) (played_from (plan_of file) memory s.played) us).moves) (slice-cons i r.turn turns 0 l u.within),
            same-moves,
            s.refines.moves,
          )

      module _ (same : g'.fates ≡ g.fates) where
        unfoldable pub went_on : PlayedSoFar file turns whole memory r.turn (moves_as t r.moves) (kept_of g' memory' log' work'')
        unfolding turning
        went_on =
            record {
              within = u.within;
              played = s.played ++ slice i r.turn turns;
              listed = λ e. ap (λ (us : List ℕ). us ++ slice i r.turn turns) (s.listed e) ∙ taken turns i r.turn u.forward;
              refines =
                  subst⁻¹ (λ (fates : List ℕ). Shown (s.played ++ slice i r.turn turns) (moves_as t r.moves) (kept_own g' memory' work'' fates log'))
                  same
                  (u.refines turning);
            }

  module _ {i : ℕ} {t : Schedule} {k : Kept} (s : PlayedSoFar file turns whole memory i t k) where
    -- at a turn that synchronises
    module _ (l : i < length turns) {r : Record} (stop : Stopped file firsts turns i k r) where
      unfoldable pub syncing : Syncing r (get_or turns i 0) t sizes k
      syncing =
          record {
            file = file;
            firsts = firsts;
            here = able-here p.named memory s.played (get_or turns i 0) (p.named.below i l) s.refines stop.able;
            fetched = stop.fetched;
            syncs = stop.syncs;
          }

      module _ {t' : Schedule} {k' : Kept} (done : Synced r (get_or turns i 0) t sizes k t' k') where
        pub synced : PlayedSoFar file turns whole memory (i + 1) t' k'
        unfolding syncing able-here
        synced =
            record {
              within = omega arith;
              played = s.played ++ (get_or turns i 0 ∷ []);
              listed = λ e.
                  ap (λ (us : List ℕ). us ++ (get_or turns i 0 ∷ [])) (s.listed e)
                  ∙ sym (ap (λ (m : ℕ). take m turns) (add-one i) ∙ take-suc turns i 0 l);
              refines =
                  moved p.named memory s.played (get_or turns i 0) (p.named.below i l) s.refines stop.able (done syncing).refines;
            }

        pub one_more : t'.counts.moves ≡ t.counts.moves + 1
        unfolding syncing able-here
        one_more =
            omega (arith, (done syncing).refines.moves, counts (plan_of file) (played_from (plan_of file) memory s.played) (get_or turns i 0), s.refines.moves)

    out : whole ≡ true → ended (played_from (plan_of file) memory s.played) ≡ true
        → PlayedOut file turns whole memory (record { schedule = t; fates = k.fates }) k.memory k.log k.work
    out e ends = record { played = s.played; listed = λ f. clash (sym f ∙ e); ends = λ f. ends; over = over s.refines }

    listed-out : whole ≡ false → Shown turns t k
        → PlayedOut file turns whole memory (record { schedule = t; fates = k.fates }) k.memory k.log k.work
    listed-out e shows = record { played = turns; listed = λ f. refl; ends = λ f. clash (sym e ∙ f); over = over shows }

    -- where the list is empty the plan has ended
    pub ends-here : {b : Bool} → b ≡ none_left t.lists.list → b ≡ true
        → PlayedOut file turns whole memory (record { schedule = t; fates = k.fates }) k.memory k.log k.work
    ends-here none e = split whole (λ f. out f empty) (λ f. listed-out f (passed f))
      where
        empty : ended (played_from (plan_of file) memory s.played) ≡ true
        empty = ap none_left (sym s.refines.lists.list) ∙ sym none ∙ e

        -- and all turns behind it pass
        passed : whole ≡ false → Shown turns t k
        passed f =
            let sound = plan-sound p.named in
            subst⁻¹ (λ (q : State). Refines (workers_of (plan_of file)) q t k)
            (rest-passes (plan_of file) sound _ turns i (start-inv (plan_of file) memory sound)
            (ap (λ (us : List ℕ). ended (played_from (plan_of file) memory us)) (sym (s.listed f)) ∙ empty)
            ∙ ap (λ (us : List ℕ). played_from (plan_of file) memory us) (sym (s.listed f)))
            s.refines

    -- or there is no turn any more
    pub all-played : length turns ≤ i → (whole ≡ true → length turns ≤ i → (w : ℕ) → w < workers_limit → get_or k.can w false ≡ false)
        → PlayedOut file turns whole memory (record { schedule = t; fates = k.fates }) k.memory k.log k.work
    all-played l nobody =
        split whole (λ f. out f (nobody-left f)) (λ f. listed-out f (subst (λ (us : List ℕ). Shown us t k) (s.listed f ∙ take_all i turns l) s.refines))
      where
        q : State
        q = played_from (plan_of file) memory s.played

        nobody-left : whole ≡ true → ended q ≡ true
        nobody-left f = split (ended q) (λ e. e) (λ e. absurd (some_left e))
          where
            some_left : ended q ≡ false → ⊥
            some_left e =
                let sound = plan-sound p.named in
                let (w, below, able) = laws.goes_on (plan_of file) q (play-inv (plan_of file) sound _ s.played (start-inv (plan_of file) memory sound)) e in
                let small : w < workers_limit = omega (arith, below, sound.workers) in
                false≢true (sym (nobody f l w small) ∙ s.refines.lists.able w small ∙ able)

  -- the turns up to one that synchronises, and that one
  module _ {i : ℕ} {t t' : Schedule} {g g' : Engine} {memory' log' work' work'' : List ℕ} {r : Reached} {k'' : Kept}
      (s : PlayedSoFar file turns whole memory i t (kept_of g memory' log' work'))
      (u : Turned file firsts turns i t.counts.moves (kept_own g memory' work') r (kept_own g' memory' work''))
      (same : g'.fates ≡ g.fates) {step : Record}
      (stop : (r.turn < length turns) × ((fates log : List ℕ) → Stopped file firsts turns r.turn (kept_own g' memory' work'' fates log) step))
      (done : Synced step (get_or turns r.turn 0) (moves_as t r.moves) sizes (kept_of g' memory' log' work'') t' k'') where
    pub stands_on : PlayedSoFar file turns whole memory (r.turn + 1) t' k''
    stands_on = synced (went_on s g' u same) stop.0 (stop.1 g'.fates log') done

    pub rises-on : t.counts.moves < t'.counts.moves
    rises-on = omega (arith, one_more (went_on s g' u same) stop.0 (stop.1 g'.fates log') done, no-fewer s g' u)

  -- the first of the list, where it is not empty
  pub first_small : {i : ℕ} {t : Schedule} {k : Kept} → PlayedSoFar file turns whole memory i t k → 0 < length t.lists.list
      → get_or t.lists.list 0 0 < workers_limit
  first_small s some =
      let sound = plan-sound p.named in
      below-first workers_limit _ some
      (list-below sound (play-inv (plan_of file) sound _ s.played (start-inv (plan_of file) memory sound)) s.refines)

  pub few-moves : {i : ℕ} {t : Schedule} {k : Kept} → PlayedSoFar file turns whole memory i t k → t.counts.moves ≤ 2064
  few-moves s = moves-fit p.named memory s.played s.refines

-- The measure: the turns that are left of a list; in a run to the end the moves that are left, and whether the next turn may pass.
pub falls : (whole : Bool) {right right' left left' : ℕ} → (whole ≡ true → right' < right) → (whole ≡ false → left' < left)
    → cond whole right' left' < cond whole right left
falls true rises shrinks = rises refl
falls false rises shrinks = shrinks refl

-- the next turn moves: so there are fewer moves left, or the last one may have passed
pub right-falls : (moves moves' : ℕ) {pass pass' : ℕ} → pass' ≡ 0 → moves ≤ moves' → moves' ≤ 2064 → pass ≤ 1 → (pass ≡ 0 → moves < moves')
    → 2 * (2065 - moves') + pass' < 2 * (2065 - moves) + pass
right-falls moves moves' {pass} {pass'} none more few most sure = elim (ℕ_discrete pass 0) [
  | yes e ↦ let m = sure e in omega arith
  | no ne ↦ omega arith
]

pub one_at_most : (turns : List ℕ) (can : List Bool) (i : ℕ) → unpicked turns can i ≤ 1
one_at_most turns can i = go (ltb i (length turns)) (get_or can (get_or turns i 0) false)
  where
    go : (b c : Bool) → cond b (cond c 0 1) 0 ≤ 1
    go false c = omega arith
    go true true = omega arith
    go true false = omega arith

-- a turn that is there and does not pass moves
pub sure : (turns : List ℕ) (can : List Bool) (i : ℕ) → i < length turns → unpicked turns can i ≡ 0 → get_or can (get_or turns i 0) false ≡ true
sure turns can i l e = go (get_or can (get_or turns i 0) false) refl
  where
    go : (c : Bool) → get_or can (get_or turns i 0) false ≡ c → get_or can (get_or turns i 0) false ≡ true
    go true q = q
    go false q =
        absurd (omega (
          arith,
          sym e ∙ (ap (λ (b : Bool). cond b (cond (get_or can (get_or turns i 0) false) 0 1) 0) (lt-ltb i (length turns) l) ∙ ap (λ (c : Bool). cond c 0 1) q),
        ))
