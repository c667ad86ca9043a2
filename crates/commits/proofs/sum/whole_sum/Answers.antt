-- `whole_sum`: the sum of the words of the blocks before the one at hand, which does not wrap.
use Prim.Native.Nat.{ℕ, ◌+◌, ◌*◌}
use native.Mathlib.Omega.{arith}
use mathlib.Core.Path.{◌≡◌, sym, ap, ◌∙◌}
use mathlib.Core.List.{List, []}
use lib.ListN.{get_or}
use borrow.Author.Rules.{rules}
use Rattle.commits.specs.Blocks.{block_size, block_words, words_from}
use Rattle.commits.proofs.Words.{words-none, words-parted, block_same, words-all, chunk_at}
use Rattle.commits.proofs.sum.whole_sum.Goals as goal

pub loop-block-init : goal.loop-block-init
loop-block-init c = record { most = search rules; words = sym (words-none c.args.memory.now 0) }

pub loop-block-preserved : goal.loop-block-preserved
loop-block-preserved c =
    let memory = c.args.memory.now in
    let i = c.loop-block.block-index in
    let done = block_words * i in
    let next : block_words * (i + 1) ≡ done + block_words = omega arith in
    let place : 0 + 2 * done ≡ block_size * i = omega arith in
    let parted =
    ap (λ (k : ℕ). words_from memory 0 k) next
    ∙ words-parted memory 0 done block_words
    ∙ ap (λ (a : ℕ). words_from memory 0 done + words_from memory a block_words) place in
    let own = block_same memory (get_or c.as_chunks.result.0.now i []) (block_size * i) block_words (λ j h.
    ap (λ (chunks : List (List ℕ)). get_or (get_or chunks i []) j 0) c.as_chunks.ensures.front ∙ chunk_at block_size _ memory i j (omega arith) h) in
    record {
      most = omega (arith, c.block_sum-sum.ensures.most);
      words = omega (arith, parted, own, c.block_sum-sum.ensures.words, c.loop-block.invariant.words);
    }

pub returns : goal.returns
returns c =
    let memory = c.args.memory.now in
    let all : block_words * c.loop-block.block-index ≡ 1024 = omega (arith, c.as_chunks.ensures.front_len) in
    c.loop-block.invariant.words ∙ ap (λ (k : ℕ). words_from memory 0 k) all ∙ sym (words-all 1024 memory c.requires)
