-- `memory_sum`: the sum over the addresses passed, which does not wrap.
use Rattle.std.proofs.Common.{◌≡◌, ℕ, suc, ◌+◌, ◌*◌, ◌≤◌, List, get_or, ap, arith, rules}
use native.Mathlib.Nat.{mul-le-mul}
use Rattle.protocol.specs.Calls.{memory_length}
use Rattle.vectors.specs.Sum.{weighed}
use Rattle.vectors.proofs.memory.memory_sum.Goals as goal

next-byte : (memory : List ℕ) (a : ℕ) → weighed memory (a + 1) ≡ weighed memory a + (a + 1) * get_or memory a 0
unfolding weighed
next-byte memory a = let next : a + 1 ≡ suc a = omega arith in ap (weighed memory) next

pub loop-address-init : goal.loop-address-init
unfolding weighed
loop-address-init c = search rules

pub loop-address-preserved : goal.loop-address-preserved
loop-address-preserved c =
    let at = c.loop-address in
    let added : (at.address + 1) * c.from.result ≤ 522240 =
    mul-le-mul {n₂ = memory_length} {m₂ = 255} (omega (arith, c.loop-address-test.true)) (omega (arith, c.from.ensures, c.fits-memory at.address)) in
    let same = ap (λ (b : ℕ). (at.address + 1) * b) c.from.ensures in
    (omega (arith, added, at.invariant.0), omega (arith, next-byte c.args.memory.now at.address, same, at.invariant.1))
