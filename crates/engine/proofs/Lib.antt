-- Who can move, by the definitions, and the marks of those who can.
pub mod CanMove
-- The parts of the refinement relation after a move.
pub mod Parts
-- What the relation says of the values, in a state that obeys the invariant.
pub mod Facts
-- The same where a worker can move: what the calls of its move ask.
pub mod Here
-- An own step simulates its move.
pub mod OwnSimulates
-- An arrival simulates its move.
pub mod ArriveSimulates
-- The holder's step simulates its move, from what its parts leave.
pub mod HoldSimulates
-- The parts of the holder's step: what they ask, and that the decision is the definitions' rule.
pub mod Holder
-- What becomes of the holder's bytes, by the ruling's case.
pub mod Settling
-- The values at first refine the start of round 1.
pub mod StartRefines
-- Turns, one after another.
pub mod Playing
-- The moves that are counted rise.
pub mod Rising
-- Turns that pass or make an own step.
pub mod OwnTurns
-- The turns of a run: those up to one that synchronises, that one, and so on; and which turn is next.
pub mod Played
