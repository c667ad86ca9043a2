-- The tests of a run.
pub mod Admitting
-- The tests of a call with many plans.
pub mod Uneven
-- Where its files begin.
pub mod Beginning
