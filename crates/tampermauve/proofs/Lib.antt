-- The report from the code's numbers is that of the state that they show.
pub mod Reported
-- What a run leaves in the buffers is what the state at its end gives.
pub mod Left
-- What the call returns, and demand 3 of what it leaves.
pub mod Ran
-- What an admitted run goes in with.
pub mod Entering
-- What one plan of a call with many takes and leaves.
pub mod Alone
-- What plan after plan leaves.
pub mod PlanByPlan
-- What the whole call returns and leaves.
pub mod AllRan
