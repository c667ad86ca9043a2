-- The turns that a plan is listed with: how many, and which.
pub mod Turning
-- The turns are whole cycles and end the plan.
pub mod Ended
-- What is written is the listing.
pub mod Told
