-- The tests of a run.
use Rattle.std.proofs.Common.{arith, ℕ, ◌≤◌, Bool, true, false, not, ◌≡◌, refl, sym, ap, ◌∙◌, List, [], ◌∷◌, length, get_or, leb, ltb, eqb, All, Contains}
use borrow.Author.Tests.{leb-true, leb-false, le-leb, lt-leb, eq-eqb}
use Rattle.protocol.specs.Format.{plan_of, records}
use Rattle.protocol.specs.Refusals.{accepted, refuse_if, ruled, holds, bad_turn, check, any_of, Verdict, refused, code_of}
use Rattle.protocol.specs.Turns.{workers_of}
use Rattle.protocol.specs.Calls.{memory_length, log_length, report_length, work_length, turns_limit, both, names_nobody, verdict_by}
use Rattle.protocol.proofs.Accepted.{accepted-file, workers-of}
use Rattle.protocol.proofs.Bools.{split}
use Rattle.protocol.proofs.Covered.{any-there, any_none}
use Rattle.protocol.proofs.FirstDue.{AsLent, as_lent}
use Rattle.protocol.proofs.Numbered.{numbered}
use Rattle.protocol.proofs.Lists.{get_or-any}
use Rattle.plan.specs.Checking.{LaidOut}
use Rattle.plan.specs.declared.check.Layout.{Layout}
use Rattle.admission.specs.Run.{unfit, verdict_for, answer_by}
use Rattle.admission.specs.declared.run.Lengths.{Lengths}

-- the lengths of the lent buffers: where they are not all right, one is wrong
pub wrong : (l : Lengths) → (AsLent l.memory l.log l.report l.work → ⊥) → true ≡ unfit l
wrong l h = split (unfit l) sym (λ e. absurd (h (as_lent l.memory l.log l.report l.work e)))

-- where three are right, the last decides
pub last-test : (l : Lengths) → l.memory ≡ memory_length → l.log ≡ log_length → l.report ≡ report_length
    → not (eqb l.work work_length) ≡ unfit l
last-test l m g r =
    sym (simp (eq-eqb l.memory memory_length m, eq-eqb l.log log_length g, eq-eqb l.report report_length r))

-- the greatest turn tells of all
pub greatest-tells : (n m : ℕ) (turns : List ℕ) → Contains turns m → All (λ t. t ≤ m) turns → leb n m ≡ names_nobody n turns
greatest-tells n m turns there most = go (names_nobody n turns) refl
  where
    go : (b : Bool) → names_nobody n turns ≡ b → leb n m ≡ b
    go true e =
        let p = any-there (λ t. leb n t) turns 0 e in
        le-leb n m (omega (arith, leb-true n (get_or turns p.0 0) p.2, most p.0 0 p.1))
    go false e =
        let same = get_or-any turns there.0 m 0 there.1 in
        lt-leb n m (omega (arith, leb-false n (get_or turns there.0 0) (any_none (λ t. leb n t) turns 0 e there.0 there.1), same, there.2))

pub no-turn : (n : ℕ) (turns : List ℕ) → length turns ≡ 0 → false ≡ names_nobody n turns
unfolding any_of
no-turn n [] e = refl
no-turn n (t ∷ ts) e = absurd (omega (arith, e))

-- the layout's number of workers is its plan's
pub plan-workers : (file : List ℕ) {l : Layout} → LaidOut file l → check file ≡ accepted → l.workers ≡ workers_of (plan_of file)
plan-workers file l ok = l.workers ∙ sym (workers-of (records file) (accepted-file file ok).records)

-- where the other tests let a run in, its turns decide
pub by-turns : (file turns : List ℕ) (l : Lengths) {layout : Layout} {s : Bool} → unfit l ≡ false → ltb turns_limit (length turns) ≡ false → accepted ≡ check file
    → LaidOut file layout → names_nobody layout.workers turns ≡ s → ruled (refuse_if s bad_turn holds) 0 accepted ≡ verdict_for file turns (unfit l)
by-turns file turns l {layout} {s} fit few ok laid named =
    let stray : names_nobody (workers_of (plan_of file)) turns ≡ s = ap (λ (n : ℕ). names_nobody n turns) (sym (plan-workers file laid (sym ok))) ∙ named in
    rw (fit, few, sym ok, stray)

-- the number for C by what the tests gave
pub tests : (file turns : List ℕ) (l : Lengths) (m t s : Bool) (v : Verdict) → unfit l ≡ m → ltb turns_limit (length turns) ≡ t → check file ≡ v
    → names_nobody (workers_of (plan_of file)) turns ≡ s → code_of (verdict_by m t v s) ≡ answer_by file turns (unfit l)
tests file turns l m t s v em et ev es = rw (em, et, ev, es)

-- the number 0 is no refusal's
pub none-refused : (v : Verdict) → code_of v ≡ 0 → v ≡ accepted
none-refused accepted e = refl
none-refused (refused f i) e = absurd (omega (arith, e, (numbered f).0))

-- and where it is not 0, no later test changes it
pub first-refused : (v next : Verdict) → (code_of v ≡ 0 → ⊥) → code_of v ≡ code_of (both v next)
first-refused accepted next h = absurd (h refl)
first-refused (refused f i) next h = refl
