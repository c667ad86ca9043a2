-- Bytes copied to a place of a log.
pub mod Placed
