-- What the moves between the three lists take and leave.
pub mod Moves
-- What settling the fates takes and leaves.
pub mod Fates
-- What the holder's step finds of the lists, and what waking all of a queue leaves.
pub mod Waking
-- What deciding the holder's step takes and leaves.
pub mod Deciding
