-- `block_sum`: after some words their sum, which does not wrap.
use native.Mathlib.Omega.{arith}
use Prim.Native.Nat.{ℕ}
use mathlib.Core.Path.{◌≡◌, sym, ap, ◌∙◌}
use borrow.Author.Rules.{rules}
use Rattle.commits.specs.Blocks.{block_words, words_from}
use Rattle.commits.proofs.Words.{words-none, words_more, word_of}
use Rattle.commits.proofs.sum.block_sum.Goals as goal

pub loop-word-init : goal.loop-word-init
loop-word-init c = record { most = search rules; words = sym (words-none c.args.block.now 0) }

pub loop-word-preserved : goal.loop-word-preserved
loop-word-preserved c =
    let block = c.args.block.now in
    let i = c.loop-word.word-index in
    record {
      most = omega arith;
      words = omega (arith, words_more block 0 i, word_of block _ c.as_chunks.result.0.now c.as_chunks.ensures.front i (omega arith));
    }

pub returns : goal.returns
returns c =
    let all : c.loop-word.word-index ≡ block_words = omega (arith, c.as_chunks.ensures.front_len) in
    record {
      words = c.loop-word.invariant.words ∙ ap (λ (k : ℕ). words_from c.args.block.now 0 k) all;
      most = omega arith;
    }
