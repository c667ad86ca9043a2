use Prim.Native.Nat.{◌*◌, ◌≤◌}
use mathlib.Core.Path.{◌≡◌}
use Rattle.commits.specs.Blocks.{words_from}
use Rattle.commits.proofs.sum.block_sum.Given as goal

abbrev pub invariant-loop-word : goal.invariant-loop-word
invariant-loop-word l = record {
  most : l.sum ≤ 65535 * l.word-index;
  words : l.sum ≡ words_from l.block 0 l.word-index;
}
