-- A block of turns at the front of those that are left, and the workers that it names. Assumes nothing.
use native.Mathlib.Omega.{arith}
use native.Mathlib.Decide.{dec_lt}
use Prim.Native.Nat.{ℕ, ◌+◌, ◌-◌, ◌≤◌, ◌<◌}
use mathlib.Core.Bool.{Bool, true, false, not}
use mathlib.Core.Path.{◌≡◌}
use mathlib.Core.List.{List}
use borrow.Author.Tests.{not-true}
use Rattle.std.specs.List.{list_all}
use Rattle.std.specs.Array.{IsFirstChunk}
use Rattle.std.proofs.Common.{length, get_or, take, drop}
use Rattle.std.proofs.lemmas.List.{get_or-take, get_or-drop, length-take, length-take-le, length-drop}
use Rattle.std.proofs.lemmas.List.Elements.{All-get_or}
use Rattle.std.proofs.lemmas.List.Sums.{AllPass-from_list_all}
use Rattle.token.specs.Passes.{Passed, NamesWorkers, Spanned}

-- where none of the workers from least to most can move, each of them cannot
pub each-idle : (can : List Bool) (least most w : ℕ) → most < length can → list_all not (take (most + 1 - least) (drop least can)) ≡ true
    → least ≤ w → w ≤ most → get_or can w false ≡ false
each-idle can least most w h e low high =
    let workers = take (most + 1 - least) (drop least can) in
    let inside : w - least < length workers = omega (arith, length-take (most + 1 - least) (drop least can), length-drop least can) in
    let idle = not-true _ (All-get_or (λ able. not able ≡ true) workers (w - least) false inside (AllPass-from_list_all not workers e)) in
    let i : least + (w - least) ≡ w = omega arith in
    rw (get_or-take (most + 1 - least) (drop least can) (w - least) false (omega arith), get_or-drop least can (w - least) false, i) at idle

-- one stretch of turns that pass behind another
pub passed-join : {turns : List ℕ} {can : List Bool} {from mid to : ℕ} → Passed turns can from mid → Passed turns can mid to → Passed turns can from to
passed-join {mid = mid} p q =
    record {
      onward = omega (arith, p.onward, q.onward);
      within = q.within;
      idle = λ i low high. elim (dec_lt i mid) [
        | yes h ↦ p.idle i low h
        | no h ↦ q.idle i (omega arith) high
      ];
    }

-- the turns from a place on, and a block at their front
abbrev pub Front : List ℕ → ℕ → List ℕ → Type 0
Front turns at block = IsFirstChunk (take (length turns - at) (drop at turns)) block 64

module _ (turns : List ℕ) (at : ℕ) {block : List ℕ} (first : Front turns at block) where
  within : at + 64 ≤ length turns
  within = omega (arith, first.enough, length-take (length turns - at) (drop at turns))

  turn : (k : ℕ) → k < 64 → get_or block k 0 ≡ get_or turns (at + k) 0
  turn k h =
      let left = take (length turns - at) (drop at turns) in
      rw (first.same, get_or-take 64 left k 0 h, get_or-take (length turns - at) (drop at turns) k 0 (omega (arith, within)), get_or-drop at turns k 0)

  pub block-named : NamesWorkers turns → NamesWorkers block
  block-named named i h =
      let e : length block ≡ 64 = rw (first.same, length-take-le 64 _ first.enough) in
      let k : i < 64 = omega (arith, e) in
      rw (turn i k) (named (at + i) (omega (arith, k, within)))

  -- a block more, none of whose workers can move
  module _ {can : List Bool} (marks : length can ≡ 8) {from least most : ℕ} (before : Passed turns can from at) (s : Spanned block 0 64 least most) where
    pub passed-block : list_all not (take (most + 1 - least) (drop least can)) ≡ true → Passed turns can from (at + 64)
    passed-block none =
        record {
          onward = omega (arith, before.onward);
          within = within;
          idle = λ i low high. elim (dec_lt i at) [
            | yes h ↦ before.idle i low h
            | no h ↦
                let k : i - at < 64 = omega arith in
                let here : at + (i - at) ≡ i = omega arith in
                let idle = each-idle can least most _ (omega (arith, s.below)) none (s.low (i - at) (omega arith) k) (s.high (i - at) (omega arith) k) in
                rw (turn (i - at) k, here) at idle
          ];
        }
