-- What a number shows of a set of locks.
pub mod Set
