-- A mark added to a number: what becomes of its digits.
mod Bits
-- A set of locks with one more, and with one less.
pub mod Sets
