-- The digits of two queues in one number.
-- Assumes nothing.
use Rattle.std.proofs.Common.{ℕ, zero, suc, ◌+◌, ◌*◌, ◌/◌, ◌%◌, ◌^◌, ◌<◌, ◌≤◌, ◌≡◌, List, ◌++◌, length, ap, arith}
use Rattle.std.proofs.Math.Nat.{pow-succ', suc-add, mul_assoc, mul-suc, mul-le-mul_left, pow-le-pow_right}
use lib.Pow.{pow-add}
use lib.Dec.{lit<}
use Rattle.queue.specs.declared.Queue.TheInside.{Inside}
use Rattle.queue.specs.Digits.{digits_of, list_of, IsQueue, length-digits_of}

digits_append : (n m low high : ℕ) → low < 16 ^ n → digits_of (n + m) (low + 16 ^ n * high) ≡ digits_of n low ++ digits_of m high
digits_append zero m low high h =
    let a : low + 16 ^ 0 * high ≡ high = omega arith in
    let b : 0 + m ≡ m = omega arith in
    rw (a, b)
digits_append (suc n) m low high h =
    let e : 16 ^ suc n * high ≡ 16 * (16 ^ n * high) = rw (pow-succ', mul_assoc) in
    let a : (low + 16 ^ suc n * high) % 16 ≡ low % 16 = omega (arith, e) in
    let b : (low + 16 ^ suc n * high) / 16 ≡ low / 16 + 16 ^ n * high = omega (arith, e) in
    rw (suc-add, a, b, digits_append n m (low / 16) high (omega (arith, pow-succ' 16 n)))

-- the number of two queues fits where their digits do
digits-below : (n m low high : ℕ) → low < 16 ^ n → high < 16 ^ m → low + 16 ^ n * high < 16 ^ (n + m)
digits-below n m low high hl hh =
    let s : 16 ^ n * suc high ≤ 16 ^ n * 16 ^ m = mul-le-mul_left (16 ^ n) (omega arith) in
    omega (arith, pow-add 16 n m, mul-suc (16 ^ n) high)

-- eight digits are below 2^32
pub power_small : (n : ℕ) → n ≤ 8 → 16 ^ n ≤ 4294967296
power_small n h = pow-le-pow_right {n = 16} (lit< tt) {i = n} {j = 8} h

-- two queues, seen as lists that fit into one
module _ (q r : Inside) (gq : IsQueue q) (gr : IsQueue r) {front behind : List ℕ} (a : list_of q ≡ front) (b : list_of r ≡ behind)
    (h : length front + length behind ≤ 8) where
  short : q.len + r.len ≤ 8
  short = omega (arith, ap length a, ap length b, length-digits_of q.len q.digits, length-digits_of r.len r.digits)

  pub appended : IsQueue (record { digits = q.digits + q.unit * r.digits; unit = q.unit * r.unit; len = q.len + r.len })
  appended =
      record {
        unit = rw (gq.unit, gr.unit, pow-add);
        digits = rw gq.unit (digits-below q.len r.len q.digits r.digits gq.digits gr.digits);
        short = short;
      }

  -- in 2^32, for the products and the sum
  pub digits_small : q.digits + q.unit * r.digits < 4294967296
  digits_small = omega (arith, appended.digits, power_small (q.len + r.len) short)

  pub unit_small : q.unit * r.unit ≤ 4294967296
  unit_small = omega (arith, appended.unit, power_small (q.len + r.len) short)

  pub list_append : digits_of (q.len + r.len) (q.digits + q.unit * r.digits) ≡ front ++ behind
  list_append = rw (gq.unit, ← a, ← b) (digits_append q.len r.len q.digits r.digits gq.digits)
