-- Any machine whose moves fall, commute and go on: all its runs to the end reach one state. There is no plan in this file.
use Prim.Native.Nat.{ℕ, zero, suc, ◌+◌, ◌<◌, ◌≤◌}
use native.Mathlib.Nat.{suc-add, zero-add}
use native.Mathlib.Decide.{ℕ_discrete}
use native.Mathlib.Omega.{arith}
use mathlib.Core.Bool.{Bool, true, false, cond}
use mathlib.Core.Path.{◌≡◌, refl, sym, ap, ◌∙◌, subst⁻¹}
use mathlib.Core.Logic.{◌≢◌}
use mathlib.Core.List.{List, [], ◌∷◌, ◌++◌, append-nil, append_assoc}
use lib.Dec.{eqb}
use borrow.Author.Tests.{eqb-true}
use Rattle.protocol.specs.Demands.{occurs, Cycles, done, other, cycle, Prefix}

pub record Machine (S E : Type 0) : Type 0 where
  pub can : S → ℕ → Bool
  pub move : S → ℕ → S
  pub ended : S → Bool
  pub measure : S → ℕ
  pub tally : S → ℕ
  pub log : S → List E

-- a turn, a list of turns, and how many of them moved
abbrev pub turn : {S E : Type 0} → Machine S E → S → ℕ → S
turn m s w = cond (m.can s w) (m.move s w) s

unfoldable pub play : {S E : Type 0} → Machine S E → S → List ℕ → S
play m s [] = s
play m s (w ∷ ws) = play m (turn m s w) ws

unfoldable pub moving_turns : {S E : Type 0} → Machine S E → S → List ℕ → ℕ
moving_turns m s [] = 0
moving_turns m s (w ∷ ws) = cond (m.can s w) 1 0 + moving_turns m (turn m s w) ws

-- a run of moves, by its length
pub data Run {S E : Type 0} (m : Machine S E) : S → S → ℕ → Type 0 where
  here : {s : S} → Run m s s zero
  step : {s t : S} {k : ℕ} (w : ℕ) → m.can s w ≡ true → Run m (m.move s w) t k → Run m s t (suc k)

-- The laws, over an invariant, for workers below n.
pub record Laws {S E : Type 0} (m : Machine S E) (Inv : S → Type 0) (n : ℕ) : Type 0 where
  pub kept : (s : S) (w : ℕ) → Inv s → m.can s w ≡ true → Inv (m.move s w)
  pub falls : (s : S) (w : ℕ) → Inv s → m.can s w ≡ true → m.measure (m.move s w) < m.measure s
  pub counts : (s : S) (w : ℕ) → Inv s → m.can s w ≡ true → m.tally (m.move s w) ≡ m.tally s + 1
  pub grows : (s : S) (w : ℕ) → Inv s → m.can s w ≡ true → Prefix (m.log s) (m.log (m.move s w))
  pub stays : (s : S) (v w : ℕ) → Inv s → v ≢ w → m.can s v ≡ true → m.can s w ≡ true → m.can (m.move s v) w ≡ true
  pub commute :
      (s : S) (v w : ℕ) → Inv s → v ≢ w → m.can s v ≡ true → m.can s w ≡ true
      → m.move (m.move s v) w ≡ m.move (m.move s w) v
  pub end-stops : (s : S) (w : ℕ) → Inv s → m.ended s ≡ true → m.can s w ≡ false
  pub goes_on : (s : S) → Inv s → m.ended s ≡ false → (w : ℕ) × (w < n) × (m.can s w ≡ true)

clash : {b : Bool} → b ≡ true → b ≡ false → ⊥
clash p q = let z : ◌≡◌ {A = ℕ} 0 1 = cc in omega arith

-- What holds of any machine.
module _ {S E : Type 0} (m : Machine S E) where
  pub joined : {s t u : S} {j k : ℕ} → Run m s t j → Run m t u k → Run m s u (j + k)
  joined here q = rw zero-add q
  joined (step w c r) q = rw suc-add (step w c (joined r q))

  pub via : {s t u : S} {k : ℕ} (w : ℕ) → m.can s w ≡ true → m.move s w ≡ t → Run m t u k → Run m s u (suc k)
  via {u = u} {k} w c e r = step w c (subst⁻¹ (λ (x : S). Run m x u k) e r)

  -- a list of turns is a run of moves
  pub played : (s : S) (ts : List ℕ) → Run m s (play m s ts) (moving_turns m s ts)
  unfolding play moving_turns
  played s [] = here
  played s (w ∷ ws) = go (m.can s w) refl (played (turn m s w) ws)
    where
      after : Bool → S
      after b = cond b (m.move s w) s

      go :
          (b : Bool) → m.can s w ≡ b → Run m (after b) (play m (after b) ws) (moving_turns m (after b) ws)
          → Run m s (play m (after b) ws) (cond b 1 0 + moving_turns m (after b) ws)
      go true c r = rw (suc-add 0, zero-add) (step w c r)
      go false c r = rw zero-add r

  play-append : (s : S) (ts us : List ℕ) → play m s (ts ++ us) ≡ play m (play m s ts) us
  unfolding play
  play-append s [] us = refl
  play-append s (w ∷ ws) us = play-append (turn m s w) ws us

-- What the laws give.
module _ {S E : Type 0} (m : Machine S E) (Inv : S → Type 0) (n : ℕ) (laws : Laws m Inv n) where
  pub run-kept : {s t : S} {k : ℕ} → Run m s t k → Inv s → Inv t
  run-kept here i = i
  run-kept (step {s} w c r) i = run-kept r (laws.kept s w i c)

  pub run-falls : {s t : S} {k : ℕ} → Run m s t k → Inv s → m.measure t + k ≤ m.measure s
  run-falls here i = omega arith
  run-falls (step {s} w c r) i = omega (arith, run-falls r (laws.kept s w i c), laws.falls s w i c)

  pub run-counts : {s t : S} {k : ℕ} → Run m s t k → Inv s → m.tally t ≡ m.tally s + k
  run-counts here i = omega arith
  run-counts (step {s} w c r) i = omega (arith, run-counts r (laws.kept s w i c), laws.counts s w i c)

  pub run-grows : {s t : S} {k : ℕ} → Run m s t k → Inv s → Prefix (m.log s) (m.log t)
  run-grows here i = ([], sym (append-nil _))
  run-grows (step {s} w c r) i =
      let (xs, p) = laws.grows s w i c in
      let (ys, q) = run-grows r (laws.kept s w i c) in
      (xs ++ ys, q ∙ ap (λ (l : List E). l ++ ys) p ∙ append_assoc (m.log s) xs ys)

  -- whoever can move first can be brought to the front of any run to the end
  front :
      {s t : S} {k : ℕ} → Run m s t k → Inv s → m.ended t ≡ true → (w : ℕ) → m.can s w ≡ true
      → (j : ℕ) × (k ≡ suc j) × Run m (m.move s w) t j
  front (here {s}) i e w c = absurd (clash c (laws.end-stops s w i e))
  front (step {s} {t} {k} v d r) i e w c = go (ℕ_discrete v w) (front r (laws.kept s v i d) e w)
    where
      Front : S → ℕ → Type 0
      Front u l = (j : ℕ) × (l ≡ suc j) × Run m u t j

      go : Dec (v ≡ w) → (m.can (m.move s v) w ≡ true → Front (m.move (m.move s v) w) k) → Front (m.move s w) (suc k)
      go (yes p) f = (k, refl, rw p at r)
      go (no p) f =
          let (j, q, r') = f (laws.stays s v w i p d c) in
          let back : w ≢ v = λ x. p (sym x) in
          (suc j, ap suc q, step v (laws.stays s w v i back c d) (rw (laws.commute s v w i p d c) at r'))

  -- all runs to the end reach one state, by the same number of moves
  pub same :
      {s t u : S} {j k : ℕ} → Run m s t j → Run m s u k → Inv s → m.ended t ≡ true → m.ended u ≡ true
      → (t ≡ u) × (j ≡ k)
  same here here i e f = (refl, refl)
  same here (step {s} w c q) i e f = absurd (clash c (laws.end-stops s w i e))
  same (step {s} w c r) q i e f =
      let (j, p, q') = front q i f w c in
      let (x, y) = same r q' (laws.kept s w i c) e f in
      (x, ap suc y ∙ sym p)

  -- every state has a run to the end
  to_end : (l : ℕ) (s : S) → Inv s → m.measure s < l → (t : S) × (k : ℕ) × Run m s t k × (m.ended t ≡ true)
  to_end zero s i h = absurd (omega arith)
  to_end (suc l) s i h =
      go (m.ended s) refl (λ w c. to_end l (m.move s w) (laws.kept s w i c) (omega (arith, laws.falls s w i c)))
    where
      Goal : S → Type 0
      Goal s = (t : S) × (k : ℕ) × Run m s t k × (m.ended t ≡ true)

      go : (b : Bool) → m.ended s ≡ b → ((w : ℕ) → m.can s w ≡ true → Goal (m.move s w)) → Goal s
      go true e f = (s, 0, here, e)
      go false e f =
          let (w, x, c) = laws.goes_on s i e in
          let (t, k, r, y) = f w c in
          (t, suc k, step w c r, y)

  pub ends : (s : S) → Inv s → (t : S) × (k : ℕ) × Run m s t k × (m.ended t ≡ true)
  ends s i = to_end (suc (m.measure s)) s i (omega arith)

  -- a run that has not ended goes on to the end of any other
  pub reaches : {s t u : S} {j k : ℕ} → Run m s t j → Run m s u k → Inv s → m.ended u ≡ true → (l : ℕ) × Run m t u l
  reaches {u = u} r q i e =
      let (v, l, r', e') = ends _ (run-kept r i) in
      (l, rw (same (joined m r r') q i e' e).0 at r')

  -- What holds of every list of turns, from a state that has a run to the end.
  module _ (s t : S) (k : ℕ) (i : Inv s) (r : Run m s t k) (e : m.ended t ≡ true) (ts : List ℕ) where
    pub play-same_end : m.ended (play m s ts) ≡ true → play m s ts ≡ t
    play-same_end f = (same (played m s ts) r i f e).0

    pub play-log_prefix : Prefix (m.log (play m s ts)) (m.log t)
    play-log_prefix = run-grows (reaches (played m s ts) r i e).1 (run-kept (played m s ts) i)

  module _ (s : S) (i : Inv s) (ts : List ℕ) where
    pub play-kept : Inv (play m s ts)
    play-kept = run-kept (played m s ts) i

    pub play-counts : m.tally (play m s ts) ≡ m.tally s + moving_turns m s ts
    play-counts = run-counts (played m s ts) i

    pub play-falls : m.measure (play m s ts) + moving_turns m s ts ≤ m.measure s
    play-falls = run-falls (played m s ts) i

  pub ended-stays : (s : S) → Inv s → m.ended s ≡ true → (ts : List ℕ) → play m s ts ≡ s
  unfolding play
  ended-stays s i e [] = refl
  ended-stays s i e (w ∷ ws) = rw (laws.end-stops s w i e) (ended-stays s i e ws)

  -- who can move when a cycle begins is named in it: somebody moves
  cycle-falls :
      (c : List ℕ) (s : S) (w : ℕ) → Inv s → m.can s w ≡ true → 0 < occurs w c → m.measure (play m s c) < m.measure s
  unfolding play occurs
  cycle-falls [] s w i c h = absurd (omega arith)
  cycle-falls (v ∷ vs) s w i c h = go (m.can s v) refl (eqb w v) refl (cycle-falls vs s w i c)
    where
      go :
          (b : Bool) → m.can s v ≡ b → (d : Bool) → eqb w v ≡ d → (0 < occurs w vs → m.measure (play m s vs) < m.measure s)
          → m.measure (play m (cond b (m.move s v) s) vs) < m.measure s
      go true x d y f = omega (arith, play-falls (m.move s v) (laws.kept s v i x) vs, laws.falls s v i x)
      go false x true y f = absurd (clash c (rw (eqb-true w v y) x))
      go false x false y f = f (rw (y, zero-add) at h)

  pub cycles-end : {k : ℕ} {ts : List ℕ} → Cycles n k ts → (s : S) → Inv s → m.measure s ≤ k → m.ended (play m s ts) ≡ true
  unfolding play
  cycles-end done s i h = go (m.ended s) refl
    where
      go : (b : Bool) → m.ended s ≡ b → m.ended s ≡ true
      go true e = e
      go false e = let (w, x, c) = laws.goes_on s i e in absurd (omega (arith, laws.falls s w i c))
  cycles-end (other w cs) s i h = cycles-end cs (turn m s w) (play-kept s i (w ∷ [])) (omega (arith, play-falls s i (w ∷ [])))
  cycles-end (cycle {k} {ts} c us whole cs p) s i h = rw (p, play-append) (go (m.ended s) refl (cycles-end cs (play m s c) (play-kept s i c)))
    where
      go :
          (b : Bool) → m.ended s ≡ b → (m.measure (play m s c) ≤ k → m.ended (play m (play m s c) ts) ≡ true)
          → m.ended (play m (play m s c) ts) ≡ true
      go true e f = rw (ended-stays s i e c, ended-stays s i e ts) e
      go false e f =
          let (w, x, d) = laws.goes_on s i e in
          f (omega (arith, cycle-falls c s w i d (omega (arith, whole.each w x))))
