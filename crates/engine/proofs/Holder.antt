-- The holder's step: what its parts ask follows from the state that is shown, and the decision is the rule of the definitions.
use Prim.Native.Nat.{ℕ, ◌+◌, ◌*◌, ◌≤◌, ◌<◌}
use mathlib.Core.Bool.{Bool}
use mathlib.Core.Path.{◌≡◌, sym, ap, ◌∙◌, subst, subst⁻¹}
use mathlib.Core.List.{List, [], ◌∷◌, ◌++◌}
use native.Mathlib.Omega.{arith}
use Rattle.std.specs.Prelude.{IfSome}
use lib.ListN.{length, get_or, drop, take}
use lib.Seq.{sets, length-sets}
use Rattle.protocol.specs.Format.{workers_limit, Plan, Sync, sync, plan_of}
use Rattle.protocol.specs.Steps.{on_condition, at_barrier, step_at}
use Rattle.protocol.specs.Turns.{workers_of}
use Rattle.protocol.specs.Sum.{moved_by, settled_change}
use Rattle.protocol.specs.Report.{entry_length, entry_bytes, log_bytes}
use Rattle.protocol.specs.Rounds as rounds
use Rattle.protocol.specs.Rounds.{State, worker_at, queue_of, fate_in, apply, member, stays_in, joins_next, memory_after, copies_after, op_of, operand_of, Entry, entry_of}
use Rattle.protocol.proofs.Invariant.{Core}
use Rattle.protocol.proofs.Locks.{file-named}
use Rattle.plan.specs.declared.decode.Record.{Record}
use Rattle.worker.specs.Private.{held_as}
use Rattle.worker.specs.declared.Worker.{Worker}
use Rattle.locks.specs.Set.{Shows}
use Rattle.queue.specs.List.{Below}
use Rattle.queue.proofs.Laws.{member-first}
use Rattle.pages.specs.Copies.{copies_in}
use Rattle.journal.specs.Bytes.{entry_as}
use Rattle.journal.proofs.Packing.{record-more}
use Rattle.token.specs.Token.{TurnedOver}
use Rattle.token.specs.declared.Round.{Round}
use Rattle.rules.specs.Codes.{sync_of}
use Rattle.decisions.specs.Moves.{ListsMoved}
use Rattle.decisions.specs.Fates.{FatesSettled}
use Rattle.decisions.specs.Deciding.{Deciding, Decided}
use Rattle.rules.proofs.Codes.{op-sync, operand-sync}
use Rattle.moves.specs.Moves.{InRange}
use Rattle.engine.specs.declared.state.Schedule.{Schedule}
use Rattle.decisions.specs.declared.decision.Decision.{Decision}
use Rattle.engine.specs.Kept.{Kept, private_of}
use Rattle.engine.specs.Holding.{BytesSettled, head_of}
use Rattle.engine.specs.Moving.{state_of, Syncing, AfterMove}
use Rattle.engine.proofs.Facts as facts
use Rattle.engine.proofs.Facts.{Holder, rule_at, applied, hold-core, list-known, next_known}
use Rattle.engine.proofs.Here as here
use Rattle.engine.proofs.Here.{sound, inv, small, held-few, list-some, holds-token, sizes-right, range, sync-here}
use Rattle.engine.proofs.Parts.{scheduled}
use Rattle.engine.proofs.HoldSimulates.{StepDone, held_kept, hold-simulates}

-- the first of a list of workers is one of them
pub head-below : (ws : List ℕ) → Below workers_limit ws → IfSome (head_of ws) (λ w. w < workers_limit)
head-below [] b = tt
head-below (w ∷ ws) b = b w (member-first w ws)

module _ {r : Record} {w : ℕ} {t : Schedule} {sizes : List ℕ} {k : Kept} (h : Syncing r w t sizes k) where
  abbrev plan : Plan
  plan = plan_of h.file

  abbrev s : State
  s = state_of h.here

  abbrev y : Sync
  y = sync_of r.op r.number

  abbrev R : rounds.Ruling
  R = rule_at plan s w y

  abbrev count : ℕ
  count = get_or k.held w 0

  step : step_at plan w (worker_at s w).place ≡ sync y
  step = sync-here h.here h.fetched h.syncs

  in-range : InRange (workers_of plan) plan.sizes r
  in-range = range h.here h.fetched

  pub deciding : Deciding r.op r.number w count t.lists k.fates
  deciding =
      let a = h.here in
      let below = facts.waiting-below (sound a) (inv a) a.refines in
      record {
        asked =
            record {
              syncs = h.syncs;
              last = in-range.last;
              operand = in-range.object h.syncs;
              barrier = λ e. in-range.queue (omega arith) (omega arith);
              target = λ e. omega (arith, in-range.target e, (sound a).workers);
              held = held-few a;
              below = below;
              awake = facts.waiting-awake (sound a) (inv a) a.refines;
            };
        holding =
            record {
              holder = small a;
              waiting = record { below = below; once = facts.waiting-once (sound a) (inv a) a.refines };
              first = list-some a;
              total = facts.lists-fit (sound a) (inv a) a.refines;
              size = a.refines.entries.fates;
            };
        total = facts.lists-spare (sound a) (inv a) a.refines r.op r.number in-range.target;
      }

  pub rounds-fit : t.counts.rounds < 65535
  rounds-fit = let i = facts.rounds-fit (sound h.here) (inv h.here) h.here.refines in omega arith

  -- the ruling is that of the definitions
  module _ {d : Decision} {fates' : List ℕ} (x : Decided r.op r.number w (worker_at s w).held sizes t.lists k.fates d fates') where
    ruled : x.is ≡ R
    ruled =
        let a = h.here in
        let queue = facts.queue-listed (sound a) (inv a) a.refines in
        x.ruled plan (queue_of s) (fate_in s) (file-named h.file)
        (λ l m. queue (on_condition r.number))
        (λ e. queue (at_barrier r.number))
        (λ e. sym (sizes-right a r.number (in-range.queue (omega arith) (omega arith))))
        (λ e. a.refines.lists.fates r.number (in-range.target e))

    lists-moved : ListsMoved t.lists R w d.lists
    lists-moved = subst (λ (q : rounds.Ruling). ListsMoved t.lists q w d.lists) ruled x.carried.moved

    module _ (near : t.away ≡ 0) where
      holder : Holder s w
      holder = holds-token h.here near

      pub records-fit : t.counts.records + 1 ≤ 1032
      records-fit = here.records-fit h.here near y step

      -- the lists after the decision are those of the definitions, so they name workers
      core : Core plan (applied plan s w y holder.rest)
      core = hold-core plan s (inv h.here).core w y holder step

      pub list-below : Below workers_limit d.lists.list
      unfolding apply
      list-below u m =
          let rest : drop 1 t.lists.list ≡ holder.rest
          = ap (λ (ws : List ℕ). drop 1 ws) (h.here.refines.lists.list ∙ holder.list) in
          let same = lists-moved.list ∙ ap (λ (ws : List ℕ). stays_in R.goes w ++ (R.wakes ++ ws)) rest in
          let i = list-known plan (applied plan s w y holder.rest) core u (ap (λ (ws : List ℕ). member u ws) (sym same) ∙ m) in
          let n = (sound h.here).workers in
          omega arith

      pub next-below : Below workers_limit d.lists.next
      unfolding apply
      next-below u m =
          let same = lists-moved.next ∙ ap (λ (ws : List ℕ). ws ++ (R.joins ++ joins_next R.goes w)) h.here.refines.lists.next in
          let i = next_known plan (applied plan s w y holder.rest) core u (ap (λ (ws : List ℕ). member u ws) (sym same) ∙ m) in
          let n = (sound h.here).workers in
          omega arith

      -- what the parts leave shows the state after the move
      module _ {v : Worker} (same-worker : v ≡ held_as (private_of k w) d.held)
          {memory' : List ℕ} {copied' : List Bool} {sum' : ℕ} (b : BytesSettled d.bytes w t.sum k.memory k.copied k.work sum' memory' copied')
          {outcome : ℕ} (same_outcome : outcome ≡ d.outcome) {records' : ℕ} {log' : List ℕ} (counted : records' ≡ t.counts.records + 1)
          (l : log' ≡ sets k.log (entry_length * t.counts.records) (entry_bytes (entry_as (t.counts.rounds + 1) w r.op r.number outcome))) where
        abbrev entry : Entry
        entry = entry_as (t.counts.rounds + 1) w r.op r.number outcome

        same-entry : entry ≡ entry_of s w y R.outcome
        same-entry =
            let q = deciding.asked in
            ap (λ (i : ℕ). entry_as (i + 1) w r.op r.number outcome) (sym h.here.refines.rounds)
            ∙ (ap (λ (i : ℕ). entry_as (s.rounds + 1) w i r.number outcome) (sym (op-sync r.op r.number q.syncs q.last))
            ∙ (ap (λ (i : ℕ). entry_as (s.rounds + 1) w (op_of y) i outcome) (sym (operand-sync r.op r.number q.syncs q.last in-range.exit))
            ∙ ap (λ (i : ℕ). entry_as (s.rounds + 1) w (op_of y) (operand_of y) i) (same_outcome ∙ (x.carried.outcome ∙ ap (λ (q : rounds.Ruling). q.outcome) ruled))))

        same-held : v.held ≡ d.held
        same-held = ap (λ (q : Worker). q.held) same-worker

        module _ (o : Round) (can' : List Bool) (turned : TurnedOver (head_of d.lists.list) d.lists.next w t.counts.rounds k.can o can') where
          done : StepDone s w y R t k v d.lists o sum' fates' can' copied' memory' log'
          done =
              let shows = h.here.refines in
              let settled = subst (λ (q : rounds.Ruling). FatesSettled k.fates q w fates') ruled x.carried.settled in
              let bytes = x.carried.bytes ∙ ap (λ (q : rounds.Ruling). q.bytes) ruled in
              record {
                lists = lists-moved;
                worker = same-worker ∙ ap (held_as (private_of k w)) (sym same-held);
                locks =
                    subst⁻¹ (λ (i : ℕ). Shows i R.held) same-held (subst (λ (q : rounds.Ruling). Shows d.held q.held) ruled x.carried.held);
                fate_count = settled.size;
                fates = settled.code;
                shared = b.shared ∙ ap (λ (i : rounds.Uncommitted). memory_after i (copies_in k.copied k.work w) k.memory) bytes;
                moved = b.moved ∙ ap (λ (i : rounds.Uncommitted). moved_by (settled_change i (copies_in k.copied k.work w) k.memory) t.sum) bytes;
                mine = b.mine ∙ ap (λ (i : rounds.Uncommitted). copies_after i (copies_in k.copied k.work w)) bytes;
                others = b.others;
                memory_size = b.size ∙ shows.bytes.sizes.memory_length;
                mark_size = b.mark_size ∙ shows.bytes.marks;
                entry =
                    ap (λ (bs : List ℕ). take (entry_length * (t.counts.records + 1)) bs) l
                    ∙ (record-more k.log s.log entry t.counts.records (let i = records-fit in let z = shows.log.size in omega arith) shows.log.bytes
                    ∙ ap (λ (e : Entry). log_bytes (s.log ++ (e ∷ []))) same-entry);
                log_size = ap length l ∙ (length-sets k.log (entry_length * t.counts.records) (entry_bytes entry) ∙ shows.log.size);
                over = turned;
              }

          -- with the log's records counted by the mark that the writer gives, and the moves and the sum however the code comes by them
          pub shown : {moves' sum'' : ℕ} → moves' ≡ t.counts.moves + 1 → sum'' ≡ sum'
              → AfterMove plan s w t (scheduled d.lists o (record { moves = moves'; rounds = o.rounds; records = records' }) sum'')
              (held_kept k w v fates' can' copied' memory' log')
          shown once same = rw (once, counted, same) (hold-simulates h.here near step done)
