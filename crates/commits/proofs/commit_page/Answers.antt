-- `commit_page`: after some blocks, their bytes are committed and the sum is that of memory as it stands.
use borrow.Author.Rules.{rules}
use Prim.Native.Nat.{ℕ, ◌+◌, ◌*◌, ◌-◌, ◌<◌}
use native.Mathlib.Omega.{arith}
use mathlib.Core.Path.{◌≡◌, ap, ◌∙◌, subst}
use mathlib.Core.List.{List}
use lib.ListN.{length, get_or, take, drop, length-take, length-drop}
use lib.Seq.{get_or-take, get_or-drop}
use borrow.Author.Tests.{not-true, not-false}
use borrow.Rule.Slice.PartMut.{put_mid}
use Rattle.protocol.specs.Calls.{memory_length}
use Rattle.protocol.specs.Pages.{page_size}
use Rattle.pages.specs.Copies.{copy_at}
use Rattle.pages.proofs.Slots.{not-in-use}
use Rattle.commits.specs.Blocks.{block_size, block_words, BytesWritten}
use Rattle.commits.proofs.Words.{block_same, block_counted, summed}
use Rattle.commits.proofs.Writing.{written_on, block_byte, written_in_place, sum_in_place}
use Rattle.commits.proofs.Commits.{commit-unused, page-written}
use Rattle.commits.proofs.commit_page.Goals as goal

pub returns-then-not-copied-slot : goal.returns-then-not-copied-slot
returns-then-not-copied-slot c =
    let a = c.args in (
      commit-unused a.p (search rules) a.memory.now _ (not-in-use a.copied.now a.work.now a.slot (not-true _ (search rules))),
      search rules,
    )

pub commit_block-total-requires : goal.commit_block-total-requires
commit_block-total-requires c =
    let m = c.loop-offset.memory in
    let from = 256 * c.args.p + c.loop-offset.offset in
    let n = from + 64 - from in
    let whole : length m ≡ memory_length = c.loop-offset.invariant.size ∙ c.requires.0.memory_length in
    let same = block_same m (take n (drop from m)) from block_words (λ i h. get_or-take n (drop from m) i 0 (omega arith) ∙ get_or-drop from m i 0) in
    record {
      size = omega (arith, length-take n (drop from m), length-drop from m);
      counted = omega (arith, same, c.loop-offset.invariant.summed.afresh, block_counted m whole from (omega arith) (omega arith));
      most = c.loop-offset.invariant.summed.most;
    }

pub loop-offset-preserved : goal.loop-offset-preserved
loop-offset-preserved c =
    let a = c.args in
    let o = c.loop-offset.offset in
    let m = c.loop-offset.memory in
    let from = 256 * a.p + o in
    let n = from + 64 - from in
    let at = copy_at a.slot in
    let pair = take (512 * a.slot + 512 - 512 * a.slot) (drop (512 * a.slot) a.work.now) in
    let whole : length m ≡ memory_length = c.loop-offset.invariant.size ∙ c.requires.0.memory_length in
    let paired : (j : ℕ) → j < 512 → get_or pair j 0 ≡ get_or a.work.now (at + j) 0 = λ j h.
    get_or-take _ (drop (512 * a.slot) a.work.now) j 0 (omega arith) ∙ get_or-drop (512 * a.slot) a.work.now j 0 in
    let mine = block_byte a.work.now c.split_at.result.0.now at _ o c.as_chunks.result.0.now (λ j l.
    ap (λ (xs : List ℕ). get_or xs j 0) c.split_at.ensures.front ∙ get_or-take 256 pair j 0 l ∙ paired j (omega arith))
    c.as_chunks.ensures.front (omega arith) (omega arith) (omega arith) in
    let twin = λ (i : ℕ) (h : i < block_size).
    block_byte a.work.now c.split_at.result.1.now (at + page_size) _ o c.as_chunks-2.result.0.now (λ j l.
    ap (λ (xs : List ℕ). get_or xs j 0) c.split_at.ensures.back ∙ get_or-drop 256 pair j 0 ∙ paired (256 + j) (omega arith)
    ∙ (let e : at + (256 + j) ≡ at + page_size + j = omega arith in ap (λ (q : ℕ). get_or a.work.now q 0) e))
    c.as_chunks-2.ensures.front (omega arith) (omega arith) (omega arith) i h
    ∙ (let e : at + page_size + o + i ≡ at + o + page_size + i = omega arith in ap (λ (j : ℕ). get_or a.work.now j 0) e) in
    let written = written_in_place from (at + o) n a.work.now m _ _ c.commit_block-total.new.shared (omega arith) (omega arith) mine twin c.commit_block-total.ensures.0 in
    let moved = sum_in_place from (at + o) n a.work.now m _ _ c.commit_block-total.new.shared (omega arith) (omega arith) mine twin c.commit_block-total.ensures.0
    whole (omega arith) c.loop-offset.total c.commit_block-total.result c.loop-offset.invariant.summed.afresh c.commit_block-total.ensures.1 in
    record {
      within = search rules;
      whole = search rules;
      size = written.size ∙ c.loop-offset.invariant.size;
      summed = summed (put_mid from n m c.commit_block-total.new.shared) _ (written.size ∙ whole) (λ i. search rules) moved;
      written = written_on (page_size * a.p) at a.work.now a.memory.now m _ o block_size c.loop-offset.invariant.written written;
    }

pub returns : goal.returns
returns c =
    let a = c.args in
    let all : c.loop-offset.offset ≡ page_size = omega arith in (
      page-written a.p a.slot (search rules) a.copied.now a.work.now a.memory.now c.loop-offset.memory (not-false _ (search rules))
          (subst (λ (n : ℕ). BytesWritten (page_size * a.p) (copy_at a.slot) n a.work.now a.memory.now c.loop-offset.memory) all c.loop-offset.invariant.written),
      c.loop-offset.invariant.summed,
    )
