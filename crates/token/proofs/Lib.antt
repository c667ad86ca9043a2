-- A block of turns, and the workers that it names.
pub mod Passing
