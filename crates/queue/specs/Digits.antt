-- What a queue's three numbers hold: the list of its base-16 digits, the first worker lowest.
use Rattle.std.specs.Prelude.{ℕ, zero, suc, ◌+◌, ◌*◌, ◌^◌, ◌/◌, ◌%◌, ◌≤◌, ◌<◌, ◌≡◌, refl, List, [], ◌∷◌, length}
use Rattle.std.proofs.Common.{ap, arith, sym}
use Rattle.std.proofs.Math.Nat.{pow-succ'}
use Rattle.protocol.specs.Format.{workers_limit}
use Rattle.queue.specs.declared.Queue.TheInside.{Inside}

-- so many digits of a number, the lowest first
abbrev pub digits_of : ℕ → ℕ → List ℕ
digits_of zero digits = []
digits_of (suc n) digits = digits % 16 ∷ digits_of n (digits / 16)

abbrev pub list_of : Inside → List ℕ
list_of q = digits_of q.len q.digits

-- at most eight digits, and the place value of the next one: what keeps the arithmetic in range
pub record IsQueue (q : Inside) : Type 0 where
  pub unit : q.unit ≡ 16 ^ q.len
  pub digits : q.digits < 16 ^ q.len
  pub short : q.len ≤ workers_limit

-- the number of a list of digits, and the queue of a list: no other queue has this list
abbrev pub packed : List ℕ → ℕ
packed [] = 0
packed (w ∷ ws) = w + 16 * packed ws

abbrev pub made_of : List ℕ → Inside
made_of ws = record { digits = packed ws; unit = 16 ^ length ws; len = length ws }

pub length-digits_of : (n digits : ℕ) → length (digits_of n digits) ≡ n
length-digits_of zero digits = refl
length-digits_of (suc n) digits = ap suc (length-digits_of n (digits / 16))

pub packed-digits_of : (n digits : ℕ) → digits < 16 ^ n → packed (digits_of n digits) ≡ digits
packed-digits_of zero digits h = omega arith
packed-digits_of (suc n) digits h =
    let r = packed-digits_of n (digits / 16) (omega (arith, pow-succ' 16 n)) in
    omega (arith, r)

pub made_of-list_of : (q : Inside) → IsQueue q → made_of (list_of q) ≡ q
made_of-list_of q g = rw (length-digits_of q.len q.digits, packed-digits_of q.len q.digits g.digits, sym g.unit) refl
