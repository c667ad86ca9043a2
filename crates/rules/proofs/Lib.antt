-- The codes of fates, and a synchronising step by its op.
pub mod Codes
-- A fate from its code.
pub mod Fates
-- Each branch of a rule's code as the definitions have it, and how great the number in a ruling's fate is.
pub mod Rulings
-- Those who wait, found by their fates' codes.
pub mod Found
