use Prim.Native.Nat.{◌*◌, ◌≤◌}
use mathlib.Core.Path.{◌≡◌}
use Rattle.commits.specs.Blocks.{block_words, words_from}
use Rattle.commits.proofs.sum.whole_sum.Given as goal

abbrev pub invariant-loop-block : goal.invariant-loop-block
invariant-loop-block l = record {
  most : l.sum ≤ 65535 * (block_words * l.block-index);
  words : l.sum ≡ words_from l.memory 0 (block_words * l.block-index);
}
