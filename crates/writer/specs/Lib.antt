-- What a record more takes and leaves.
pub mod Appended
