-- The digits of two queues in one number.
pub mod Appending
-- Lists of workers: the first and the rest, bounds of each.
pub mod Laws
-- Keeping those of a list that pass a test.
pub mod Picked
-- Setting the entries of some workers.
pub mod Walk
