-- Who can move, by the marks that the code keeps, and the end of a holder's step.
pub mod Token
-- Turns that pass, many at a time.
pub mod Passes
