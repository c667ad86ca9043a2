-- Document 01, as the requests of document 02 amend it, a module for each of its sections, in its order.

-- "Plan file": the ops by name.
pub mod Ops
-- "Plan file": records, the table of steps, and the plan that a file holds.
pub mod Format
-- "Who can cause which refusal": the refusals, and the check of a plan file.
pub mod Refusals
-- "Pages": a worker's copies, load, store and commit.
pub mod Pages
-- "Plan file" and "Rounds": a worker's private record, and its own steps.
pub mod Steps
-- "Rounds": the state of a run, and the rule of each synchronising step.
pub mod Rounds
-- "Turns": who can move, what one move does, and a list of turns.
pub mod Turns
-- "The round-by-round run".
pub mod RoundRun
-- Three: the sum of the words at even addresses, and by how much each commit moves it.
pub mod Sum
-- "Log and report": both as bytes.
pub mod Report
-- "Calls and buffers": what the calls for one file return and leave.
pub mod Calls
-- Case 1: the listing program's turns and text.
pub mod Listing
-- Four: many plans in one call.
pub mod Batch
-- Seven: the bytes that a plan names.
pub mod Named
-- "Plan file" and "Calls and buffers" as a description: what a well-formed file is, and what a run accepts.
pub mod WellFormed
-- "Who can cause which refusal" as a description: each refusal's condition, and the order of the tests.
pub mod Conditions
-- Demand 3; and what the sum (Three), many plans (Four), locks by name (Five), the list of Six and bytes nobody named (Seven) are to show.
pub mod Demands
