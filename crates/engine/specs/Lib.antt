-- What the engine keeps, as one record.
pub mod Kept
-- The refinement relation: how what is kept shows a state of the definitions.
pub mod Refines
-- One move of a worker that can move: what it takes, and that it leaves what shows the state after the move.
pub mod Moving
-- The parts of the holder's step.
pub mod Holding
-- A list of turns, and the turns up to the next one that synchronises.
pub mod Turning
