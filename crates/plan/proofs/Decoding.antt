-- What the decoder finds, by the mark.
use mathlib.Core.Bool.{Bool, true, false, cond}
use mathlib.Core.Path.{◌≡◌, ap, sym}
use lib.Dec.{eqb}
use borrow.Author.Tests.{eq-eqb, ne_eqb}
use Rattle.protocol.specs.Format.{Record, plan_mark}
use Rattle.plan.specs.Answer.{body_of, decoded_of}
use Rattle.std.specs.Prelude.{Some, None}

by-mark : (r : Record) (b : Bool) → eqb r.mark plan_mark ≡ b → cond b (Some (body_of r)) None ≡ decoded_of r
by-mark r b e = sym (ap (λ (t : Bool). cond t (Some (body_of r)) None) e)

pub marked-decoded : (r : Record) → r.mark ≡ plan_mark → Some (body_of r) ≡ decoded_of r
marked-decoded r e = by-mark r true (eq-eqb _ _ e)

pub unmarked-decoded : (r : Record) → (r.mark ≡ plan_mark → ⊥) → None ≡ decoded_of r
unmarked-decoded r e = by-mark r false (ne_eqb _ _ e)
