-- Where the values show a state in which worker w can move: what the calls of its move ask, and the step at its place.
use Prim.Native.Nat.{ℕ, suc, ◌+◌, ◌*◌, ◌<◌, ◌≤◌}
use native.Mathlib.Numerals.{add-one}
use native.Mathlib.Omega.{arith}
use mathlib.Core.Bool.{true, false}
use mathlib.Core.Path.{◌≡◌, sym, ap, ◌∙◌, subst⁻¹}
use mathlib.Core.List.{List, [], ◌∷◌}
use lib.ListN.{length, get_or, length-append}
use Rattle.protocol.specs.Ops.{op_start}
use Rattle.protocol.specs.Format.{record_length, records_limit, workers_limit, barrier_count, steps_limit, Plan, Step, own, sync, Sync, synchronises, records, first_in, plan_of}
use Rattle.protocol.specs.Steps as steps
use Rattle.protocol.specs.Steps.{step_at}
use Rattle.protocol.specs.Rounds.{State, worker_at, member, entry_of, apply}
use Rattle.protocol.specs.Turns.{workers_of}
use Rattle.protocol.proofs.Accepted.{accepted-file, size_of, sound-file}
use Rattle.protocol.proofs.Sound.{Sound}
use Rattle.protocol.proofs.Invariant.{Inv}
use Rattle.protocol.proofs.Counting.{clash, member-some}
use Rattle.protocol.proofs.Fence.{can-view, in_list}
use Rattle.protocol.proofs.OwnMoves.{Listed, listed}
use Rattle.protocol.proofs.Laws.{start-inv}
use Rattle.protocol.proofs.Obeys.{play-inv}
use Rattle.protocol.proofs.Bounds.{bounded, records-bound, log-bound}
use Rattle.plan.specs.Answer.{record_of}
use Rattle.plan.specs.declared.decode.Record.{Record}
use Rattle.queue.proofs.Laws.{below-first}
use Rattle.worker.specs.Private.{own_of}
use Rattle.locks.specs.Set.{Shows, Held}
use Rattle.rules.specs.Codes.{sync_of}
use Rattle.rules.proofs.Codes.{step-sync}
use Rattle.moves.specs.Moves.{fetched_as, step_of_body, InRange, OwnMoving}
use Rattle.moves.proofs.Fetched.{fetchable, fetched, in-range}
use Rattle.moves.proofs.Owned.{step-of-own, own-ready}
use Rattle.engine.specs.declared.state.Schedule.{Schedule}
use Rattle.engine.specs.Kept.{Kept, private_of}
use Rattle.engine.specs.Moving.{Able, state_of}
use Rattle.engine.proofs.Facts as facts
use Rattle.engine.proofs.Facts.{Holder, holder, rule_at, applied, hold-core}

step-of-sync : (r : Record) → synchronises r.op ≡ true → r.op ≤ op_start → step_of_body r ≡ sync (sync_of r.op r.number)
unfolding step_of_body
step-of-sync r syncs last = step-sync (record_of r) syncs last

member-some-length : (w : ℕ) (ws : List ℕ) → member w ws ≡ true → 0 < length ws
unfolding member
member-some-length w [] m = clash m
member-some-length w (v ∷ vs) m = omega arith

module _ {file sizes firsts : List ℕ} {w : ℕ} {t : Schedule} {k : Kept} (a : Able file sizes firsts w t k) where
  abbrev plan : Plan
  plan = plan_of file

  abbrev s : State
  s = state_of a

  pub sound : Sound plan
  sound = sound-file file a.laid.ok

  pub inv : Inv plan s
  inv = play-inv plan sound _ a.turns (start-inv plan a.start sound)

  in-round : member w s.list ≡ true
  in-round = in_list s w (can-view s w a.able)

  pub listed_here : Listed plan s w
  listed_here = listed plan s w inv.core (member-some w s.list in-round)

  pub known : w < workers_of plan
  known = listed_here.known

  pub small : w < workers_limit
  small = omega (arith, known, sound.workers)

  pub moves-small : t.counts.moves ≤ 2064
  moves-small = facts.moves-fit sound inv a.refines

  -- the worker's record
  place_same : get_or k.places w 0 ≡ (worker_at s w).place
  place_same = sym (ap (λ (v : steps.Worker). v.place) (a.refines.bytes.worker w known))

  pub place-small : get_or k.places w 0 ≤ steps_limit
  place-small = omega (arith, place_same, listed_here.place, sound.lengths w)

  pub held-shown : Shows (get_or k.held w 0) (worker_at s w).held
  held-shown = a.refines.bytes.locks w known

  pub held-few : Held (get_or k.held w 0)
  held-few = record { locks = (worker_at s w).held; shown = held-shown; few = (bounded plan s sound inv).held w }

  -- the round's list
  pub list-some : 0 < length t.lists.list
  list-some = rw a.refines.lists.list (member-some-length w s.list in-round)

  pub first_small : get_or t.lists.list 0 0 < workers_limit
  first_small = below-first workers_limit t.lists.list list-some (facts.list-below sound inv a.refines)

  pub holds-token : t.away ≡ 0 → Holder s w
  holds-token near = holder s w a.able (sym a.refines.lists.away ∙ near)

  -- the log has room for the holder's step
  pub records-fit : t.away ≡ 0 → (y : Sync) → step_at plan w (worker_at s w).place ≡ sync y → t.counts.records + 1 ≤ 1032
  unfolding apply
  records-fit near y step =
      omega (
        arith,
        a.refines.log.count,
        length-append s.log (entry_of s w y (rule_at plan s w y).outcome ∷ []),
        log-bound plan (applied plan s w y (holds-token near).rest) (hold-core plan s inv.core w y (holds-token near) step),
        records-bound plan sound,
      )

  -- the layout
  first-right : get_or firsts w 0 ≡ first_in (records file) w
  first-right = a.laid.firsts_right w (omega (arith, small))

  end-right : get_or firsts (w + 1) 0 ≡ first_in (records file) (suc w)
  end-right = a.laid.firsts_right (w + 1) (omega (arith, small)) ∙ ap (λ (i : ℕ). first_in (records file) i) (add-one w)

  pub sizes-right : (b : ℕ) → b < barrier_count → get_or sizes b 0 ≡ get_or plan.sizes b 0
  sizes-right b l = a.laid.sizes_right b l ∙ sym (size_of (records file) (accepted-file file a.laid.ok).records b l)

  -- what `fetch` requires
  pub fetch-fits :
      (record_length * get_or firsts (w + 1) 0 ≤ length file)
      × (get_or firsts (w + 1) 0 ≤ records_limit) × (get_or firsts w 0 ≤ get_or firsts (w + 1) 0) × (get_or k.places w 0 ≤ steps_limit)
  fetch-fits = let f = fetchable file a.laid.ok w in rw (first-right, end-right) (f.0, f.1, f.2, place-small)

  -- the record of the step at the worker's place
  module _ {r : Record} (e : r ≡ fetched_as file (get_or firsts w 0) (get_or firsts (w + 1) 0) (get_or k.places w 0)) where
    same : r ≡ fetched_as file (first_in (records file) w) (first_in (records file) (suc w)) (get_or k.places w 0)
    same =
        e
        ∙ ap (λ (i : ℕ). fetched_as file i (get_or firsts (w + 1) 0) (get_or k.places w 0)) first-right
        ∙ ap (λ (i : ℕ). fetched_as file (first_in (records file) w) i (get_or k.places w 0)) end-right

    pub range : InRange (workers_of plan) plan.sizes r
    range = subst⁻¹ (λ (b : Record). InRange (workers_of plan) plan.sizes b) same (in-range file a.laid.ok w (get_or k.places w 0))

    step-here : {q : Step} → step_of_body r ≡ q → step_at plan w (worker_at s w).place ≡ q
    step-here q =
        ap (λ (i : ℕ). step_at plan w i) (sym place_same)
        ∙ sym (ap step_of_body same ∙ fetched file a.laid.ok w (get_or k.places w 0))
        ∙ q

    pub own-here : synchronises r.op ≡ false → step_at plan w (worker_at s w).place ≡ own (own_of r.op r.register r.number)
    own-here owns = step-here (step-of-own r range owns)

    pub sync-here : synchronises r.op ≡ true → step_at plan w (worker_at s w).place ≡ sync (sync_of r.op r.number)
    sync-here syncs = step-here (step-of-sync r syncs range.last)

    pub own-fits : synchronises r.op ≡ false → OwnMoving (private_of k w) r
    own-fits owns = own-ready (private_of k w) r range owns place-small
