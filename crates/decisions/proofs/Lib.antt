-- The three lists.
pub mod Moving
-- The fates that a step frees.
pub mod Freed
-- The laws of waking all who wait on a condition.
pub mod Rousing
-- A broadcast is carried out as the definitions have it.
pub mod Broadcasts
