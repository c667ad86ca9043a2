-- `commit`: the parts of its contract are those of its calls; a worker without a copy has nothing to commit.
use borrow.Author.Rules.{rules}
use native.Mathlib.Omega.{arith}
use borrow.Author.Tests.{not-true}
use Prim.Native.Nat.{ℕ, ◌+◌, ◌<◌, ◌≤◌}
use mathlib.Core.Path.{◌≡◌, refl, sym, ap, ◌∙◌}
use mathlib.Core.Bool.{Bool, false}
use mathlib.Core.List.{List}
use lib.ListN.{length, get_or}
use lib.Seq.{take_all}
use Rattle.protocol.specs.Pages.{page_count, Copies, commit}
use Rattle.protocol.specs.Sum.{sum_of, moved_by, commit_change}
use Rattle.protocol.proofs.Sums.{commit-moves}
use Rattle.pages.specs.Copies.{slot_of, copies_in}
use Rattle.pages.proofs.Slots.{length-copies, unmarked-worker}
use Rattle.commits.specs.Committing.{any_copied}
use Rattle.commits.proofs.Words.{summed}
use Rattle.commits.proofs.Commits.{none-copied, commit-none, commit-nothing, commit-size}
use Rattle.commits.proofs.commit.Goals as goal

-- the sum afresh before and after, and so by how much it moved
sum_moved : (copies : Copies) (memory : List ℕ) {memory' : List ℕ} {sum sum' : ℕ} → memory' ≡ commit copies memory → sum ≡ sum_of memory → sum' ≡ sum_of memory'
    → sum' ≡ moved_by (commit_change copies memory) sum
sum_moved copies memory shared before after =
    after ∙ ap sum_of shared ∙ commit-moves copies memory ∙ ap (moved_by (commit_change copies memory)) (sym before)

no_copy : (marks : List Bool) (w : ℕ) → any_copied marks w 0 page_count ≡ false → (p : ℕ) → p < page_count → get_or marks (slot_of w p) false ≡ false
no_copy marks w e p h =
    let same : p ≡ 0 + p = omega arith in
    ap (λ (q : ℕ). get_or marks (slot_of w q) false) same ∙ none-copied marks w 0 page_count e p h

pub returns-then-not-any_copy : goal.returns-then-not-any_copy
returns-then-not-any_copy c =
    let a = c.args in
    let memory = a.memory.now in
    let off = no_copy a.copied.now a.w (sym c.any_copy.ensures ∙ not-true c.any_copy.result (search rules)) in
    let dropped = unmarked-worker a.w a.copied.now a.copied.now a.work.now refl off (λ s h. refl) in
    let same = commit-none memory ∙ ap (λ (k : Copies). commit k memory) (sym dropped.mine) in
    record {
      shared = same;
      moved = sum_moved (copies_in a.copied.now a.work.now a.w) memory same (search rules) (search rules);
      dropped = dropped;
      size = refl;
    }

pub commit_pages-half-requires : goal.commit_pages-half-requires
commit_pages-half-requires c =
    let a = c.args in (
      c.requires.0,
      c.requires.1,
      search rules,
      summed a.memory.now a.sum c.requires.0.memory_length (λ i. search rules) c.requires.2,
    )

pub returns : goal.returns
returns c =
    let a = c.args in
    let memory = a.memory.now in
    let copies = copies_in a.copied.now a.work.now a.w in
    let all : length copies ≤ page_count = omega (arith, length-copies a.copied.now a.work.now a.w) in
    let shared =
    c.commit_pages-moved.ensures.0 memory (c.commit_pages-half.ensures.0 memory (commit-nothing memory))
    ∙ ap (λ (k : Copies). commit k memory) (take_all page_count copies all) in
    record {
      shared = shared;
      moved = sum_moved copies memory shared (search rules) (omega arith);
      dropped = c.discard.ensures a.work.now;
      size = commit-size copies memory c.commit_pages-moved.new.memory shared;
    }
