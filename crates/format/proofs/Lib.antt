-- The one rule over the rows, and where the rows stand.
pub mod Rows
