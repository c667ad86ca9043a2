-- A register's digit, taken out and put in by shifts.
mod Digits
-- An own step by its op is what the definitions say.
pub mod OwnSteps
