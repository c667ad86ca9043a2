-- A working copy is as long as its twin, after any turns.
-- Assumes nothing.
use Prim.Native.Nat.{ℕ}
use mathlib.Core.Path.{◌≡◌, ◌∙◌, subst⁻¹}
use mathlib.Core.List.{List}
use lib.ListN.{length, length-set}
use Rattle.protocol.specs.Format.{Own, assign, load, store, add, subtract, skip_zero, skip_nonzero, Plan}
use Rattle.protocol.specs.Pages.{page_count, page_of, offset_of, page, Copy, absent, copied, Copies, no_copies, copy_of, opened, stored, store_byte, store_word}
use Rattle.protocol.specs.Steps.{Worker, new_worker, own_step}
use Rattle.protocol.specs.Rounds.{Uncommitted, kept, committed, lost, copies_after, rule_of}
use Rattle.protocol.proofs.Lists.{get_or-copies}
use Rattle.protocol.proofs.Placed.{all_set}
use Rattle.protocol.proofs.EachWorker.{KeptBy}

abbrev pub Paired : Copy → Type 0
Paired absent = Unit {0}
Paired (copied working twin) = length working ≡ length twin

abbrev pub AllPaired : Copies → Type 0
AllPaired copies = (p : ℕ) → Paired (copy_of copies p)

none-paired : AllPaired no_copies
unfolding no_copies
none-paired p = subst⁻¹ Paired (get_or-copies absent page_count p) tt

paired-byte : (memory : List ℕ) (copies : Copies) (a byte : ℕ) → AllPaired copies → AllPaired (store_byte memory copies a byte)
unfolding store_byte
paired-byte memory copies a byte all = all_set Paired absent copies (page_of a) _ all (go (copy_of copies (page_of a)) (all (page_of a)))
  where
    go : (c : Copy) → Paired c → Paired (stored (opened (page memory (page_of a)) c) (offset_of a) byte)
    go absent e = length-set (page memory (page_of a)) (offset_of a) byte
    go (copied working twin) e = length-set working (offset_of a) byte ∙ e

paired_word : (memory : List ℕ) (copies : Copies) (a number : ℕ) → AllPaired copies → AllPaired (store_word memory copies a number)
unfolding store_word
paired_word memory copies a number all = paired-byte memory _ _ _ (paired-byte memory copies a _ all)

abbrev pub PairedWorker : Worker → Type 0
PairedWorker v = AllPaired v.copies

pub new-paired : PairedWorker new_worker
unfolding new_worker
new-paired = none-paired

own-paired : (memory : List ℕ) (o : Own) (v : Worker) → PairedWorker v → PairedWorker (own_step memory o v)
unfolding own_step
own-paired memory (assign r k) v all = all
own-paired memory (load r a) v all = all
own-paired memory (store r a) v all = paired_word memory v.copies a _ all
own-paired memory (add r q) v all = all
own-paired memory (subtract r q) v all = all
own-paired memory (skip_zero r k) v all = all
own-paired memory (skip_nonzero r k) v all = all

settled-paired : (b : Uncommitted) (copies : Copies) → AllPaired copies → AllPaired (copies_after b copies)
settled-paired kept copies all = all
settled-paired committed copies all = none-paired
settled-paired lost copies all = none-paired

pub paired-kept : (plan : Plan) → KeptBy plan PairedWorker
paired-kept plan =
    record {
      owns = own-paired;
      arrives = λ v all. all;
      fates = λ f v all. all;
      ruled = λ queue fates v y all. settled-paired (rule_of plan queue fates v.held y).bytes v.copies all;
    }
