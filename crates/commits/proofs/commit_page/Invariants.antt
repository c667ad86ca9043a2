use Prim.Native.Nat.{◌*◌, ◌%◌, ◌≤◌}
use mathlib.Core.Path.{◌≡◌}
use lib.ListN.{length}
use Rattle.protocol.specs.Pages.{page_size}
use Rattle.pages.specs.Copies.{copy_at}
use Rattle.commits.specs.Blocks.{block_size, BytesWritten, Summed}
use Rattle.commits.proofs.commit_page.Given as goal

abbrev pub invariant-loop-offset : goal.invariant-loop-offset
invariant-loop-offset l = record {
  within : l.offset ≤ page_size;
  whole : l.offset % block_size ≡ 0;
  size : length l.memory ≡ length l.initial.memory;
  summed : Summed l.memory l.total;
  written : BytesWritten (page_size * l.p) (copy_at l.slot) l.offset l.work l.initial.memory l.memory;
}
