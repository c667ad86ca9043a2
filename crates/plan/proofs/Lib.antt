-- What the decoder finds, by the mark.
pub mod Decoding
-- The records of seven bytes as a file.
pub mod Recorded
-- One record of the reading, and the barrier records.
pub mod Readings
-- What the row of an op tells.
pub mod Limited
-- The sleep records: the code's test, and what is kept of them.
pub mod Slept
-- The step records.
pub mod Stepped
-- The skips.
pub mod Skipped
-- The check of a file, from its length to its layout.
pub mod Checks
