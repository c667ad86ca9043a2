-- `any_copy`: after some marks, whether one of them is set.
use Prim.Native.Nat.{ℕ, suc, ◌+◌, ◌<◌, ◌≤◌}
use native.Mathlib.Numerals.{add-one}
use native.Mathlib.Omega.{arith}
use mathlib.Core.Path.{◌≡◌, refl, ap, ◌∙◌}
use mathlib.Core.Bool.{Bool, false, ◌||◌}
use mathlib.Core.List.{List}
use lib.ListN.{length, get_or, take, drop, length-take, length-drop}
use lib.Seq.{get_or-take, get_or-drop}
use Rattle.pages.specs.Copies.{slot_of}
use Rattle.commits.specs.Committing.{any_copied}
use Rattle.commits.proofs.any_copy.Goals as goal

-- n marks, from a worker's page on
module _ (marks : List Bool) (w from at n k : ℕ) (place : at ≡ slot_of w from) where
  -- one page more
  any-more : (any : Bool) → any ≡ any_copied marks w from k → k < length (take n (drop at marks))
      → (any || get_or (take n (drop at marks)) k false) ≡ any_copied marks w from (suc k)
  unfolding any_copied
  any-more any e h =
      let there : at + k ≡ slot_of w (from + k) = omega arith in
      rw e
      (ap (λ (m : Bool). any_copied marks w from k || m)
      (get_or-take n (drop at marks) k false (omega (arith, length-take n (drop at marks)))
      ∙ get_or-drop at marks k false
      ∙ ap (λ (s : ℕ). get_or marks s false) there))

  all-looked : n ≤ length marks → at + n ≤ length marks → length (take n (drop at marks)) ≤ k → k ≤ length (take n (drop at marks)) → k ≡ n
  all-looked short inside least most = omega (arith, length-take n (drop at marks), length-drop at marks)

pub loop-mark-init : goal.loop-mark-init
unfolding any_copied
loop-mark-init c = refl

pub loop-mark-preserved : goal.loop-mark-preserved
loop-mark-preserved c =
    let a = c.args in
    rw add-one (any-more a.copied.now a.w a.from _ _ c.loop-mark.mark-index (omega arith) c.loop-mark.any c.loop-mark.invariant c.loop-mark-test.true)

pub returns : goal.returns
returns c =
    let a = c.args in
    let all = all-looked a.copied.now a.w a.from _ _ c.loop-mark.mark-index (omega arith) (omega arith) (omega arith)
    c.loop-mark-test.false c.loop-mark.auto.mark-index-end in
    let count : c.loop-mark.mark-index ≡ a.count = omega (arith, all) in
    c.loop-mark.invariant ∙ ap (λ (k : ℕ). any_copied a.copied.now a.w a.from k) count
