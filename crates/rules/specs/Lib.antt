-- The numbers and enums of the code as the definitions have them.
pub mod Codes
-- What a ruling of the code stands for, and what a rule takes and leaves.
pub mod Rules
