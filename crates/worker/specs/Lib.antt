-- Registers as four numbers, a worker's record in the code and in the definitions, and what its steps take and leave.
pub mod Digits
pub mod Private
