-- An own step on the lent bytes, from its parts.
pub mod Owned
-- The step at a worker's place, by the file's layout.
pub mod Fetched
