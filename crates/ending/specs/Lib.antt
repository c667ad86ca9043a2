-- What the end of a run goes by, takes and leaves.
pub mod Ending
