-- The laws of waking all who wait on a condition: two scans of those who wait, with the fates of the woken set on the way.
-- Assumes nothing.
use Prim.Native.Nat.{ℕ, ◌+◌, ◌≤◌}
use native.Mathlib.Omega.{arith}
use borrow.Author.Tests.{eq-eqb, ne_eqb}
use mathlib.Core.Bool.{Bool, true, false, not}
use mathlib.Core.Path.{◌≡◌, refl, ap, sym, ◌∙◌}
use mathlib.Core.List.{List, [], ◌∷◌, ◌++◌, append-nil}
use lib.Dec.{eqb}
use lib.ListN.{length, length-append, get_or, set}
use lib.Seq.{get_or-set_other}
use Rattle.protocol.specs.Rounds.{member, keep}
use Rattle.protocol.specs.Demands.{occurs}
use Rattle.protocol.proofs.Counting.{member-some, occurs-same}
use Rattle.queue.specs.List.{Below, set_all}
use Rattle.queue.proofs.Laws.{member-first, member-rest, below-after}
use Rattle.queue.proofs.Picked.{scan-keep, scan-pass}
use Rattle.decisions.specs.Waking.{Rousing, AllWoken}
use Rattle.decisions.proofs.Moving.{without-kept}

once-rest : (w v : ℕ) (ws : List ℕ) → occurs w (v ∷ ws) ≤ 1 → occurs w ws ≤ 1
unfolding occurs
once-rest w v ws once = omega (arith, once)

-- whoever stands once in a list does not stand behind itself
other-behind : (v : ℕ) (vs : List ℕ) → occurs v (v ∷ vs) ≤ 1 → (w : ℕ) → member w vs ≡ true → (w ≡ v → ⊥)
other-behind v vs once w m e = omega (arith, member-some w vs m, once, occurs-same v vs, ap (λ (u : ℕ). occurs u vs) e)

-- who is to be woken, by the fates at first
abbrev pub wakened : List ℕ → ℕ → ℕ → Bool
wakened fates code w = eqb (get_or fates w 0) code

-- what the loop holds: those unseen have their fates still, and to set those of them who are to be woken is to set all of these
pub record Rouses (before : List ℕ) (code : ℕ) (all fates unseen woken left : List ℕ) : Type 0 where
  pub chosen : woken ++ keep (wakened before code) unseen ≡ keep (wakened before code) all
  pub others : left ++ keep (λ w. not (wakened before code w)) unseen ≡ keep (λ w. not (wakened before code w)) all
  pub few : length woken + length left + length unseen ≤ 8
  pub below : Below 8 unseen
  pub once : (w : ℕ) → occurs w unseen ≤ 1
  pub unchanged : (w : ℕ) → member w unseen ≡ true → get_or fates w 0 ≡ get_or before w 0
  pub same : set_all 0 (keep (wakened before code) unseen) fates ≡ set_all 0 (keep (wakened before code) all) before

pub rouse-start : (fates : List ℕ) (code : ℕ) {waiting : List ℕ} → Rousing waiting → length waiting ≤ 8 → Rouses fates code waiting fates waiting [] []
rouse-start fates code r few =
    record { chosen = refl; others = refl; few = omega (arith, few); below = r.below; once = r.once; unchanged = λ w m. refl; same = refl }

module _ {before : List ℕ} {code : ℕ} {all fates unseen woken left : List ℕ} (s : Rouses before code all fates unseen woken left) where
  pub rouse-end : unseen ≡ [] → AllWoken all before code (record { woken = woken; left = left }) fates
  unfolding keep
  rouse-end e =
      record {
        woken = rw (e, append-nil) at s.chosen;
        left = rw without-kept (rw (e, append-nil) at s.others);
        going = rw e at s.same;
      }

  -- a turn of the loop, which takes the worker v off
  module _ {v : ℕ} {after : List ℕ} (taken : unseen ≡ v ∷ after) where
    tested : get_or fates v 0 ≡ get_or before v 0
    tested = s.unchanged v (rw taken (member-first v after))

    once_here : (w : ℕ) → occurs w (v ∷ after) ≤ 1
    once_here = rw taken at s.once

    kept_here : (w : ℕ) → member w after ≡ true → get_or fates w 0 ≡ get_or before w 0
    kept_here w m = s.unchanged w (rw taken (member-rest w v after m))

    pub rouse-wake : get_or fates v 0 ≡ code → Rouses before code all (set fates v 0) after (woken ++ (v ∷ [])) left
    unfolding keep
    rouse-wake y =
        let hit : wakened before code v ≡ true = eq-eqb (get_or before v 0) code (sym tested ∙ y) in
        record {
          chosen = scan-keep (wakened before code) all woken taken s.chosen (sym hit);
          others = scan-pass (λ w. not (wakened before code w)) all left taken s.others (sym (ap not hit));
          few = omega (arith, s.few, ap length taken, length-append woken (v ∷ []));
          below = below-after taken s.below;
          once = λ w. once-rest w v after (once_here w);
          unchanged = λ w m. get_or-set_other fates v w 0 0 (other-behind v after (once_here v) w m) ∙ kept_here w m;
          same = rw (taken, hit) at s.same;
        }

    pub rouse-leave : (get_or fates v 0 ≡ code → ⊥) → Rouses before code all fates after woken (left ++ (v ∷ []))
    unfolding keep
    rouse-leave n =
        let miss : wakened before code v ≡ false = ne_eqb (get_or before v 0) code (λ e. n (tested ∙ e)) in
        record {
          chosen = scan-pass (wakened before code) all woken taken s.chosen (sym miss);
          others = scan-keep (λ w. not (wakened before code w)) all left taken s.others (sym (ap not miss));
          few = omega (arith, s.few, ap length taken, length-append left (v ∷ []));
          below = below-after taken s.below;
          once = λ w. once-rest w v after (once_here w);
          unchanged = kept_here;
          same = rw (taken, miss) at s.same;
        }
