-- The code's rows as the table has them, and where an op's row stands.
pub mod Table
-- The codes of fates.
pub mod Fates
