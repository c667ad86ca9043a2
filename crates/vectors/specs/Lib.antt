-- The sum that shows a change of memory.
pub mod Sum
