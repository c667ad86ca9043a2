-- What a run is admitted by.
pub mod Run
-- The same of many plans in one call.
pub mod Plans
