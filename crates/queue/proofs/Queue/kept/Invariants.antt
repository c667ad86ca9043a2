use Rattle.std.proofs.Common.{◌≡◌, ℕ, Bool, true, ◌+◌, ◌≤◌, ◌++◌, length}
use Rattle.protocol.specs.Rounds.{keep, member}
use Rattle.queue.proofs.Queue.kept.Given as goal

abbrev pub invariant-loop-w : goal.invariant-loop-w
invariant-loop-w g l = record {
  short : length l.kept + length l.w-iterator ≤ 8;
  callable : (w : ℕ) → member w l.w-iterator ≡ true → goal.F-pre g l.test w;
  same :
      (p : ℕ → Bool)
      → ((w : ℕ) (r : Bool) → goal.F-post g l.test w r → r ≡ p w)
      → l.kept ++ keep p l.w-iterator ≡ keep p l.initial.w-iterator;
}
