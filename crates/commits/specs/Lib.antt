-- A block of a page: its sum, and its commit byte by byte.
pub mod Blocks
-- What a worker's commit leaves, and by how much it moves the sum.
pub mod Committing
