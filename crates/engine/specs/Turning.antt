-- A list of turns or a run to the end, and the turns up to the next one that synchronises: what they take, and what they leave.
use Rattle.std.specs.Prelude.{ℕ, ◌+◌, ◌*◌, ◌≤◌, ◌<◌, Bool, true, false, ◌≡◌, List, [], ◌++◌, eqb, length, get_or, MatchOption}
use Rattle.std.proofs.Math.Seq.{slice}
use Rattle.protocol.specs.Format.{workers_limit, synchronises, up_to, records, sleepers_in, plan_of}
use Rattle.protocol.specs.Rounds.{keep}
use Rattle.protocol.specs.Turns.{workers_of, start as begin, ended}
use Rattle.protocol.specs.Sum.{sum_of, kept_sum}
use Rattle.protocol.specs.Calls.{log_length, turns_limit, played_from}
use Rattle.format.specs.Fates.{code_going}
use Rattle.plan.specs.Sleeping.{FirstFates}
use Rattle.plan.specs.declared.decode.Record.{Record}
use Rattle.pages.specs.Copies.{Lent}
use Rattle.moves.specs.Moves.{fetched_as}
use Rattle.token.specs.Token.{raised, FirstAble}
use Rattle.engine.specs.declared.state.Schedule.{Schedule}
use Rattle.engine.specs.declared.state.Reached.{Reached}
use Rattle.engine.specs.declared.state.Played.{Played}
use Rattle.engine.specs.Kept.{Kept, kept}
use Rattle.engine.specs.Refines.{Refines}
use Rattle.engine.specs.Moving.{Laid}

-- turns of an accepted file, each of which names a worker that some plan may have
pub record Named (file sizes firsts turns : List ℕ) : Type 0 where
  pub laid : Laid file sizes firsts
  pub below : (i : ℕ) → i < length turns → get_or turns i 0 < workers_limit
  pub short : length turns ≤ turns_limit

-- so many turns of a worker, and so many of all workers
abbrev pub stretch : ℕ
stretch = 32

abbrev pub cycle_turns : ℕ
cycle_turns = stretch * workers_limit

-- the schedule with so many moves
abbrev pub moves_as : Schedule → ℕ → Schedule
moves_as t moves =
    record {
      lists = t.lists;
      away = t.away;
      counts = record { moves = moves; rounds = t.counts.rounds; records = t.counts.records };
      sum = t.sum;
    }

-- the values show what some turns before turn i leave, so many of which have moved, whatever the schedule, the fates and the log are
pub record Turning (file firsts turns : List ℕ) (i made : ℕ) (k : List ℕ → List ℕ → Kept) : Type 0 where
  pub sizes : List ℕ
  pub named : Named file sizes firsts turns
  pub within : i ≤ length turns
  pub start : List ℕ
  pub before : List ℕ
  pub schedule : Schedule
  pub counted : schedule.counts.moves ≡ made
  pub fates : List ℕ
  pub log : List ℕ
  pub refines : Refines (workers_of (plan_of file)) (played_from (plan_of file) start before) schedule (k fates log)

-- turn i names a worker that can move, and r is its step, which synchronises
pub record Stopped (file firsts turns : List ℕ) (i : ℕ) (k : Kept) (r : Record) : Type 0 where
  pub able : get_or k.can (get_or turns i 0) false ≡ true
  pub fetched : r ≡ fetched_as file (get_or firsts (get_or turns i 0) 0) (get_or firsts (get_or turns i 0 + 1) 0) (get_or k.places (get_or turns i 0) 0)
  pub syncs : synchronises r.op ≡ true

-- the values show the state after the turns from there up to the one that is reached
pub record Turned (file firsts turns : List ℕ) (from made : ℕ) (k : List ℕ → List ℕ → Kept) (r : Reached) (k' : List ℕ → List ℕ → Kept) : Type 0 where
  pub forward : from ≤ r.turn
  pub within : r.turn ≤ length turns
  pub stopped : MatchOption r.step (r.turn ≡ length turns) (λ step. (r.turn < length turns) × ((fates log : List ℕ) → Stopped file firsts turns r.turn (k' fates log) step))
  pub refines :
      (h : Turning file firsts turns from made k)
      → Refines (workers_of (plan_of file)) (played_from (plan_of file) h.start (h.before ++ slice from r.turn turns)) (moves_as h.schedule r.moves)
      (k' h.fates h.log)

-- those of n workers who are going, by the codes of the fates
abbrev pub awake : ℕ → List ℕ → List ℕ
awake n fates = keep (λ w. eqb (get_or fates w 0) code_going) (up_to n)

-- the schedule of round 1, and who can move
pub record RoundBegun (n : ℕ) (fates : List ℕ) (can : List Bool) (memory : List ℕ) (t : Schedule) (can' : List Bool) : Type 0 where
  pub list : t.lists.list ≡ awake n fates
  pub next : t.lists.next ≡ []
  pub waiting : t.lists.waiting ≡ []
  pub away : t.away ≡ length (awake n fates)
  pub moves : t.counts.moves ≡ 0
  pub rounds : t.counts.rounds ≡ 0
  pub records : t.counts.records ≡ 0
  pub sum : t.sum ≡ sum_of memory
  pub marks : can' ≡ raised (awake n fates) can

-- the turns that a run to the end chooses from: where each worker's stretch begins, behind the cycles. What else they are makes the run fast,
-- and is not asked for.
pub record Stretches (turns : List ℕ) : Type 0 where
  pub size : length turns ≡ 2 * cycle_turns
  pub first : (w : ℕ) → w < workers_limit → get_or turns (cycle_turns + stretch * w) 0 ≡ w

-- the turn that is next: that of the list; in a run to the end any, and which one is left open
pub record Onward (whole : Bool) (next i : ℕ) : Type 0 where
  pub listed : whole ≡ false → i ≡ next
  pub within : whole ≡ true → i < 2 * cycle_turns

-- the turn behind the last: none in a list; in a run to the end the first of the stretch of a worker that can move, if there is one
pub record Again (whole : Bool) (next : ℕ) (can : List Bool) (i : ℕ) : Type 0 where
  pub listed : whole ≡ false → i ≡ next
  pub picked : whole ≡ true → (w : ℕ) × (i ≡ cycle_turns + stretch * w) × FirstAble can w

-- what is taken: buffers of their lengths, turns, the n workers of an accepted file, and the codes of their fates at first
pub record Playing (file : List ℕ) (n : ℕ) (sizes firsts first turns : List ℕ) (whole : Bool) (memory log work : List ℕ) : Type 0 where
  pub named : Named file sizes firsts turns
  pub stretches : whole ≡ true → Stretches turns
  pub workers : n ≡ workers_of (plan_of file)
  pub fates : FirstFates (sleepers_in (records file)) first
  pub bytes : Lent memory work
  pub room : length log ≡ log_length

-- the values at the end show the state after the turns, and the sum is what the commits of the turns have made of the first one
pub record Over (file turns start : List ℕ) (p : Played) (memory log work : List ℕ) : Type 0 where
  pub places : List ℕ
  pub held : List ℕ
  pub registers : List (List ℕ)
  pub can : List Bool
  pub copied : List Bool
  pub refines :
      Refines (workers_of (plan_of file)) (played_from (plan_of file) start turns) p.schedule
      (kept places held registers p.fates can copied memory log work)
  pub moved : p.schedule.sum ≡ kept_sum (plan_of file) (begin (plan_of file) start) (sum_of start) turns

-- what is left is what some turns leave: those of the list; or, in a run to the end, others that end the plan
pub record PlayedOut (file turns : List ℕ) (whole : Bool) (start : List ℕ) (p : Played) (memory log work : List ℕ) : Type 0 where
  pub played : List ℕ
  pub listed : whole ≡ false → played ≡ turns
  pub ends : whole ≡ true → ended (played_from (plan_of file) start played) ≡ true
  pub over : Over file played start p memory log work
