-- From a slot to a worker's copies, and what the code's stores and copies do to a slot.
use Prim.Native.Nat.{ℕ, ◌+◌, ◌-◌, ◌*◌, ◌<◌, ◌≤◌, ◌/◌, ◌%◌}
use native.Mathlib.Omega.{arith}
use native.Mathlib.Decide.{ℕ_discrete, dec_lt}
use mathlib.Core.Path.{◌≡◌, refl, sym, ap, ◌∙◌, subst, subst⁻¹}
use mathlib.Core.Logic.{◌⊎◌, inl, inr}
use mathlib.Core.Bool.{Bool, true, false}
use mathlib.Core.List.{List}
use lib.ListN.{length, get_or, set, take, drop, length-set, length-take, length-drop, replicate, length-replicate}
use lib.Seq.{ext_get_or, get_or-set_same, get_or-set_other, paste, length-paste}
use borrow.Rule.Slice.PartMut.{mid_of, put_mid}
use Rattle.protocol.specs.Format.{workers_limit}
use Rattle.protocol.specs.Calls.{memory_length, work_length}
use Rattle.protocol.specs.Pages.{page_size, page_count, page, Copy, absent, copied, Copies, no_copies, page_of, offset_of, copy_of, loaded, load_byte, opened, stored, store_byte, store_word}
use Rattle.protocol.proofs.Lists.{get_or-copies, length-counted, mapped}
use Rattle.pages.specs.Copies.{slot_count, part, slot_of, copy_at, twin_at, marked, slot_copy, copy_in, copies_in, SlotHolds, WorkerHolds}
use Rattle.pages.proofs.Parts.{Disjoint, get_or-part, part-set-here, part-set-apart, part-paste-here, part-paste-apart, length-written, written_here, written_apart}

-- ---- what a slot holds

module _ (marks : List Bool) (work : List ℕ) (s : ℕ) where
  pub in_use : get_or marks s false ≡ true → slot_copy marks work s ≡ copied (part (copy_at s) work) (part (twin_at s) work)
  unfolding slot_copy
  in_use e = ap (λ (m : Bool). marked m (part (copy_at s) work) (part (twin_at s) work)) e

  pub not-in-use : get_or marks s false ≡ false → slot_copy marks work s ≡ absent
  unfolding slot_copy
  not-in-use e = ap (λ (m : Bool). marked m (part (copy_at s) work) (part (twin_at s) work)) e

-- a slot of which the mark and both parts are as they were
same-slot : (marks marks' : List Bool) (work work' : List ℕ) (s : ℕ) → get_or marks' s false ≡ get_or marks s false
    → part (copy_at s) work' ≡ part (copy_at s) work → part (twin_at s) work' ≡ part (twin_at s) work
    → slot_copy marks' work' s ≡ slot_copy marks work s
unfolding slot_copy
same-slot marks marks' work work' s m a b = cc

-- ---- a worker's copies

pub length-copies : (marks : List Bool) (work : List ℕ) (w : ℕ) → length (copies_in marks work w) ≡ page_count
unfolding copies_in
length-copies marks work w = length-counted _ page_count 0

pub copies_at : (marks : List Bool) (work : List ℕ) (w p : ℕ) → p < page_count → copy_of (copies_in marks work w) p ≡ copy_in marks work w p
unfolding copies_in
copies_at marks work w p h = mapped (λ q. copy_in marks work w q) page_count p absent h

pub copies-are : (marks : List Bool) (work : List ℕ) (w : ℕ) (copies : Copies) → length copies ≡ page_count
    → ((p : ℕ) → p < page_count → copy_in marks work w p ≡ copy_of copies p) → copies_in marks work w ≡ copies
copies-are marks work w copies n h =
    ext_get_or absent (copies_in marks work w) copies (length-copies marks work w ∙ sym n)
    (λ p b. let q : p < page_count = rw (length-copies marks work w) at b in copies_at marks work w p q ∙ h p q)

-- no marks, no copies
pub unmarked : (n : ℕ) (work : List ℕ) (w : ℕ) → copies_in (replicate n false) work w ≡ no_copies
unfolding no_copies
unmarked n work w = copies-are (replicate n false) work w no_copies (length-replicate page_count absent) (λ p h.
    not-in-use (replicate n false) work (slot_of w p) (get_or-copies false n (slot_of w p)) ∙ sym (get_or-copies absent page_count p))

-- one slot changed is one page of its worker changed
module _ (w p : ℕ) (copy : Copy) (marks : List Bool) (work : List ℕ) (marks' : List Bool) (work' : List ℕ) where
  pub slot-worker : p < page_count → SlotHolds (slot_of w p) copy marks work marks' work'
      → WorkerHolds w (set (copies_in marks work w) p copy) marks work marks' work'
  slot-worker b holds =
      record {
        mine = copies-are marks' work' w _ (length-set (copies_in marks work w) p copy ∙ length-copies marks work w) mine';
        others = λ v ne. copies-are marks' work' v _ (length-copies marks work v) (λ q h.
            holds.elsewhere (slot_of v q) (λ e. ne (omega arith)) ∙ sym (copies_at marks work v q h));
        size = holds.size;
        mark_size = holds.mark_size;
      }
    where
      mine' : (q : ℕ) → q < page_count → copy_in marks' work' w q ≡ copy_of (set (copies_in marks work w) p copy) q
      mine' q h = go (ℕ_discrete q p)
        where
          go : Dec (q ≡ p) → copy_in marks' work' w q ≡ copy_of (set (copies_in marks work w) p copy) q
          go (yes e) =
              subst (λ (r : ℕ). copy_in marks' work' w r ≡ copy_of (set (copies_in marks work w) p copy) r) (sym e)
              (holds.here ∙ sym (get_or-set_same (copies_in marks work w) p copy absent (rw (length-copies marks work w) b)))
          go (no ne) =
              holds.elsewhere (slot_of w q) (λ e. ne (omega arith))
              ∙ sym (get_or-set_other (copies_in marks work w) p q copy absent ne ∙ copies_at marks work w q h)

-- the marks of one worker taken away
pub unmarked-worker : (w : ℕ) (marks marks' : List Bool) (work : List ℕ) → length marks' ≡ length marks
    → ((p : ℕ) → p < page_count → get_or marks' (slot_of w p) false ≡ false)
    → ((s : ℕ) → ((p : ℕ) → p < page_count → s ≡ slot_of w p → ⊥) → get_or marks' s false ≡ get_or marks s false)
    → WorkerHolds w no_copies marks work marks' work
unfolding no_copies
unmarked-worker w marks marks' work same off kept =
    record {
      mine = copies-are marks' work w no_copies (length-replicate page_count absent) (λ p h.
          not-in-use marks' work (slot_of w p) (off p h) ∙ sym (get_or-copies absent page_count p));
      others = λ v ne. copies-are marks' work v _ (length-copies marks work v) (λ q h.
          same-slot marks marks' work work (slot_of v q) (kept (slot_of v q) (λ p b e. ne (omega arith))) refl refl ∙ sym (copies_at marks work v q h));
      size = refl;
      mark_size = same;
    }

-- .. by marks written over in one stretch
pub unmarked-written : (w k : ℕ) (marks off : List Bool) (work : List ℕ) → w < workers_limit → length marks ≡ slot_count → k ≡ page_count
    → off ≡ replicate (length (mid_of (page_count * w) k marks)) false → WorkerHolds w no_copies marks work (put_mid (page_count * w) k marks off) work
unmarked-written w k marks off work inside all whole none =
    unmarked-worker w marks _ work (length-written at k marks off fits size)
    (λ p h. written_here at k marks off fits size p false (omega arith) ∙ ap (λ (l : List Bool). get_or l p false) none ∙ get_or-copies false _ p)
    (λ s ne. written_apart at k marks off fits size s false (apart s ne))
  where
    at : ℕ
    at = page_count * w

    fits : at + k ≤ length marks
    fits = omega arith

    size : length off ≡ k
    size = ap length none ∙ length-replicate _ false ∙ omega (arith, length-take k (drop at marks), length-drop at marks)

    apart : (s : ℕ) → ((p : ℕ) → p < page_count → s ≡ slot_of w p → ⊥) → (s < at) ⊎ (at + k ≤ s)
    apart s ne = elim (dec_lt s at) [
      | yes h ↦ inl h
      | no h ↦ elim (dec_lt s (at + k)) [
        | yes l ↦ absurd (ne (s - at) (omega arith) (omega arith))
        | no l ↦ inr (omega arith)
      ]
    ]

-- ---- a slot

-- a stretch within one slot is apart from a page within another
slots_apart : (slot s at n b : ℕ) → (s ≡ slot → ⊥) → copy_at slot ≤ at → at + n ≤ twin_at slot + page_size
    → copy_at s ≤ b → b ≤ twin_at s → Disjoint at n b
slots_apart slot s at n b ne h₁ h₂ h₃ h₄ = elim (dec_lt s slot) [
  | yes h ↦ inr (omega arith)
  | no h ↦ inl (omega arith)
]

marked-stored : (m : Bool) (working twin : List ℕ) (offset byte : ℕ) → marked m (set working offset byte) twin ≡ stored (marked m working twin) offset byte
marked-stored true working twin offset byte = refl
marked-stored false working twin offset byte = refl

-- a byte stored into the working copy
pub store-slot : (slot offset byte : ℕ) (copy : Copy) (marks : List Bool) (work : List ℕ) (marks' : List Bool) (work' : List ℕ) → offset < page_size
    → SlotHolds slot copy marks work marks' work'
    → SlotHolds slot (stored copy offset byte) marks work marks' (set work' (copy_at slot + offset) byte)
unfolding slot_copy
store-slot slot offset byte copy marks work marks' work' h holds =
    record {
      here =
          ap (λ (l : List ℕ). marked mark l (part (twin_at slot) stored-work)) (part-set-here (copy_at slot) work' offset byte h)
          ∙ ap (λ (l : List ℕ). marked mark (set (part (copy_at slot) work') offset byte) l) (part-set-apart (twin_at slot) work' (copy_at slot + offset) byte (inl (omega arith)))
          ∙ marked-stored mark (part (copy_at slot) work') (part (twin_at slot) work') offset byte
          ∙ ap (λ (k : Copy). stored k offset byte) holds.here;
      elsewhere = λ s ne.
          same-slot marks' marks' work' (set work' (copy_at slot + offset) byte) s refl
          (part-set-apart (copy_at s) work' (copy_at slot + offset) byte (slots_apart slot s _ 1 _ ne (omega arith) (omega arith) (omega arith) (omega arith)))
          (part-set-apart (twin_at s) work' (copy_at slot + offset) byte (slots_apart slot s _ 1 _ ne (omega arith) (omega arith) (omega arith) (omega arith)))
          ∙ holds.elsewhere s ne;
      size = length-set work' (copy_at slot + offset) byte ∙ holds.size;
      mark_size = holds.mark_size;
    }
  where
    mark : Bool
    mark = get_or marks' slot false

    stored-work : List ℕ
    stored-work = set work' (copy_at slot + offset) byte

-- a page copied twice into a slot that was not in use
module _ (slot p : ℕ) (memory : List ℕ) (marks : List Bool) (work : List ℕ) (ph : p < page_count) (lm : length memory ≡ memory_length)
    (lw : length work ≡ work_length) (sh : slot < slot_count) (lk : length marks ≡ slot_count) (off : get_or marks slot false ≡ false) where
  abbrev source : List ℕ
  source = drop (page_size * p) memory

  abbrev once : List ℕ
  once = paste work (copy_at slot) source page_size

  abbrev twice : List ℕ
  twice = paste once (twin_at slot) source page_size

  enough : page_size ≤ length source
  enough = simp length-drop (omega arith)

  inside : copy_at slot + page_size ≤ length work
  inside = omega arith

  once-size : length once ≡ length work
  once-size = length-paste work (copy_at slot) source page_size inside enough

  inside' : twin_at slot + page_size ≤ length once
  inside' = rw once-size (omega arith)

  untouched : (b : ℕ) → Disjoint (copy_at slot) page_size b → Disjoint (twin_at slot) page_size b → part b twice ≡ part b work
  untouched b h₁ h₂ = part-paste-apart once source (twin_at slot) inside' enough b h₂ ∙ part-paste-apart work source (copy_at slot) inside enough b h₁

  working-copy : part (copy_at slot) twice ≡ take page_size source
  working-copy =
      part-paste-apart once source (twin_at slot) inside' enough (copy_at slot) (inr (omega arith))
      ∙ part-paste-here work source (copy_at slot) inside enough

  pub open-slot : (work₁ work₂ : List ℕ) → work₁ ≡ paste work (copy_at slot) (drop (page_size * p) memory) page_size
      → work₂ ≡ paste work₁ (twin_at slot) (drop (page_size * p) memory) page_size
      → SlotHolds slot (opened (page memory p) (slot_copy marks work slot)) marks work (set marks slot true) work₂
  unfolding page
  open-slot work₁ work₂ e₁ e₂ =
      subst⁻¹ (λ (l : List ℕ). SlotHolds slot (opened (page memory p) (slot_copy marks work slot)) marks work (set marks slot true) l)
      (e₂ ∙ ap (λ (l : List ℕ). paste l (twin_at slot) source page_size) e₁)
      record {
        here =
            in_use (set marks slot true) twice slot (get_or-set_same marks slot true false (omega arith))
            ∙ ap (λ (l : List ℕ). copied l (part (twin_at slot) twice)) working-copy
            ∙ ap (λ (l : List ℕ). copied (take page_size source) l) (part-paste-here once source (twin_at slot) inside' enough)
            ∙ sym (ap (λ (k : Copy). opened (take page_size source) k) (not-in-use marks work slot off));
        elsewhere = λ s ne.
            same-slot marks (set marks slot true) work twice s (get_or-set_other marks slot s true false ne)
            (untouched (copy_at s) (slots_apart slot s _ _ _ ne (omega arith) (omega arith) (omega arith) (omega arith))
            (slots_apart slot s _ _ _ ne (omega arith) (omega arith) (omega arith) (omega arith)))
            (untouched (twin_at s) (slots_apart slot s _ _ _ ne (omega arith) (omega arith) (omega arith) (omega arith))
            (slots_apart slot s _ _ _ ne (omega arith) (omega arith) (omega arith) (omega arith)));
        size = length-paste once (twin_at slot) source page_size inside' enough ∙ once-size;
        mark_size = length-set marks slot true;
      }

-- a slot in use stays as it is
pub open-again : (slot : ℕ) (bytes : List ℕ) (marks : List Bool) (work : List ℕ) → get_or marks slot false ≡ true
    → SlotHolds slot (opened bytes (slot_copy marks work slot)) marks work marks work
open-again slot bytes marks work on =
    record {
      here = in_use marks work slot on ∙ sym (ap (λ (k : Copy). opened bytes k) (in_use marks work slot on));
      elsewhere = λ s ne. refl;
      size = refl;
      mark_size = refl;
    }

-- ---- a store

-- a byte stored into an open page
pub store-open : (memory : List ℕ) (w a byte : ℕ) (marks : List Bool) (work : List ℕ) (marks' : List Bool) (work' : List ℕ) → a < memory_length
    → SlotHolds (slot_of w (page_of a)) (opened (page memory (page_of a)) (copy_in marks work w (page_of a))) marks work marks' work'
    → WorkerHolds w (store_byte memory (copies_in marks work w) a byte) marks work marks' (set work' (copy_at (slot_of w (page_of a)) + offset_of a) byte)
unfolding store_byte
store-open memory w a byte marks work marks' work' h holds =
    let b : page_of a < page_count = omega arith in
    let o : offset_of a < page_size = omega arith in
    subst⁻¹
    (λ (k : Copy). WorkerHolds w (set (copies_in marks work w) (page_of a) (stored (opened (page memory (page_of a)) k) (offset_of a) byte)) marks work marks'
    (set work' (copy_at (slot_of w (page_of a)) + offset_of a) byte))
    (copies_at marks work w (page_of a) b)
    (slot-worker w (page_of a) _ marks work marks' _ b (store-slot (slot_of w (page_of a)) (offset_of a) byte _ marks work marks' work' o holds))

-- two bytes, one after the other
pub store_both : (memory : List ℕ) (w a b number low high : ℕ) (marks : List Bool) (work : List ℕ) (marks₁ : List Bool) (work₁ : List ℕ)
    (marks₂ : List Bool) (work₂ : List ℕ) → low ≡ number % 256 → high ≡ number / 256
    → WorkerHolds w (store_byte memory (copies_in marks work w) a low) marks work marks₁ work₁
    → WorkerHolds w (store_byte memory (copies_in marks₁ work₁ w) b high) marks₁ work₁ marks₂ work₂
    → b ≡ a + 1
    → WorkerHolds w (store_word memory (copies_in marks work w) a number) marks work marks₂ work₂
unfolding store_word
store_both memory w a b number low high marks work marks₁ work₁ marks₂ work₂ l h first second next =
    record {
      mine =
          second.mine
          ∙ ap (λ (k : Copies). store_byte memory k b high) first.mine
          ∙ ap (λ (k : ℕ). store_byte memory (store_byte memory (copies_in marks work w) a low) k high) next
          ∙ ap (λ (n : ℕ). store_byte memory (store_byte memory (copies_in marks work w) a n) (a + 1) high) l
          ∙ ap (λ (n : ℕ). store_byte memory (store_byte memory (copies_in marks work w) a (number % 256)) (a + 1) n) h;
      others = λ v ne. second.others v ne ∙ first.others v ne;
      size = second.size ∙ first.size;
      mark_size = second.mark_size ∙ first.mark_size;
    }

-- ---- a load

module _ (memory : List ℕ) (marks : List Bool) (work : List ℕ) (w a : ℕ) (h : a < memory_length) where
  abbrev at_slot : ℕ
  at_slot = slot_of w (page_of a)

  pub load-copy : get_or marks at_slot false ≡ true → get_or work (copy_at at_slot + offset_of a) 0 ≡ load_byte memory (copies_in marks work w) a
  unfolding load_byte
  load-copy e =
      sym
      (ap (λ (k : Copy). loaded k (offset_of a) (get_or memory a 0)) (copies_at marks work w (page_of a) (omega arith) ∙ in_use marks work at_slot e)
      ∙ get_or-part (copy_at at_slot) work (offset_of a) (omega arith))

  pub load-shared : get_or marks at_slot false ≡ false → get_or memory a 0 ≡ load_byte memory (copies_in marks work w) a
  unfolding load_byte
  load-shared e =
      sym
      (ap (λ (k : Copy). loaded k (offset_of a) (get_or memory a 0)) (copies_at marks work w (page_of a) (omega arith) ∙ not-in-use marks work at_slot e))
