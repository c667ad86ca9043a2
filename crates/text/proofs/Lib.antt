-- Writing piece by piece: what is written and what remains make up the whole.
pub mod Writing
-- The digits of a number.
pub mod Digits
-- Lines of numbers: how one goes on, and how long it is at most.
pub mod Numbers
-- A log's bytes, read back.
pub mod Entries
