-- What is written into a slice, and the log and the report as the text's numbers.
pub mod Text
