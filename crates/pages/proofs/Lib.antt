-- A page's worth of a list, after a store and after a copy.
pub mod Parts
-- From a slot to a worker's copies.
pub mod Slots
