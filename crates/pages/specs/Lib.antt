-- What the lent bytes hold, and what the functions leave in them.
pub mod Copies
