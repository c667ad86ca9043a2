-- What a plan that is played takes and leaves, and what the call of a run ensures.
pub mod Run
-- The same of many plans in one call.
pub mod All
