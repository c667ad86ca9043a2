-- What a record more makes of the log, and what a report written in three parts is.
pub mod Packing
