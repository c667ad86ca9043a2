-- `commit_pages`: the commit has done the pages before the one at hand, and the sum is that of memory as it stands.
use borrow.Author.Rules.{rules}
use Prim.Native.Nat.{ℕ, ◌+◌, ◌<◌}
use native.Mathlib.Omega.{arith}
use mathlib.Core.Path.{◌≡◌, sym, ap, ◌∙◌}
use lib.ListN.{take}
use borrow.Author.Tests.{not-true}
use Rattle.protocol.specs.Pages.{page_count, commit}
use Rattle.pages.specs.Copies.{slot_of, copy_in, copies_in}
use Rattle.pages.proofs.Slots.{copies_at, not-in-use}
use Rattle.commits.specs.Committing.{half_count}
use Rattle.commits.proofs.Commits.{none-copied, pages-more, pages-none}
use Rattle.commits.proofs.commit_pages.Goals as goal

pub returns-then-not-any_copy : goal.returns-then-not-any_copy
returns-then-not-any_copy c =
    let a = c.args in
    let off = none-copied a.copied.now a.w a.from half_count (sym c.any_copy.ensures ∙ not-true c.any_copy.result (search rules)) in (
      λ first e. pages-none (copies_in a.copied.now a.work.now a.w) first a.memory.now a.from half_count (search rules)
          (λ p h.
          copies_at a.copied.now a.work.now a.w (a.from + p) (omega (arith, c.requires))
          ∙ not-in-use a.copied.now a.work.now (slot_of a.w (a.from + p)) (off p h))
          e,
      search rules,
    )

pub loop-p-preserved : goal.loop-p-preserved
loop-p-preserved c =
    let a = c.args in
    let copies = copies_in a.copied.now a.work.now a.w in
    let p = c.loop-p.p in
    let h : p < page_count = omega (arith, c.requires, c.loop-p-test.true) in
    record {
      size = search rules;
      done = λ first e. pages-more copies first p h (copy_in a.copied.now a.work.now a.w p) c.loop-p.memory c.commit_page-total.new.memory
          (copies_at a.copied.now a.work.now a.w p h) (c.loop-p.invariant.done first e) c.commit_page-total.ensures.0;
      summed = c.commit_page-total.ensures.1;
    }

pub returns : goal.returns
returns c =
    let a = c.args in
    let copies = copies_in a.copied.now a.work.now a.w in
    let all : c.loop-p.p ≡ a.from + half_count = omega arith in
    (λ first e. c.loop-p.invariant.done first e ∙ ap (λ (n : ℕ). commit (take n copies) first) all, c.loop-p.invariant.summed)
