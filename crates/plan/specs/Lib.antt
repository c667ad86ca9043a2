-- The code's enums and structs as the definitions have them.
pub mod Answer
-- The records up to an index, and what the reading of the barrier records takes and leaves.
pub mod Reading
-- What the reading of the sleep records takes and leaves.
pub mod Sleeping
-- What the reading of the steps takes and leaves.
pub mod Stepping
-- What the test of the skips takes.
pub mod Skipping
-- What the check of a file answers.
pub mod Checking
