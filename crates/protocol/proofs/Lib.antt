-- What everybody needs.

-- Going by cases over a short range of numbers.
pub mod Each
-- Disjunctions and conjunctions, and their parts.
pub mod Bools
-- Lists that are counted off, repeated or read from a file.
pub mod Lists
-- Lists of which each element is changed by its place.
pub mod Placed
-- The plan file: what an accepted one is; then which test decides a verdict, and that accepted means well-formed.

-- Lists of records, one more at the end.
pub mod Records
-- What it means that a record is taken: the rules of a later record, as facts.
pub mod Taken
-- The records that a reading has taken so far, and what is known of them.
pub mod Prefix
-- The table of steps: of every row, what its step is.
pub mod Tabled
-- What the theorems ask of a plan.
pub mod Sound
-- What an accepted file is, and that its plan is sound.
pub mod Accepted
-- Six: which ops synchronise, by their number and by their step.
pub mod Points
-- A refusal's number is never 0.
pub mod Numbered
-- The rule of a record names the first of the record's tests that is due.
pub mod Covered
-- The verdicts of a check and of a run are those of the first test that is due.
pub mod FirstDue
-- Four: the same of many plans in one call.
pub mod BatchDue
-- The records of an accepted file are formed as `WellFormed` says.
pub mod Described
-- Accepted just when well-formed, and a run just when runnable.
pub mod Formed
-- The limit on turns that move, in the file's terms.
pub mod Limit
-- Demand 3: a theorem about any machine, the laws of this one, the round-by-round run, and the claim on states and on bytes.

-- Any machine whose moves fall, commute and go on: all its runs to the end reach one state.
pub mod Confluence
-- What holds of every state that a list of turns reaches, and the measure that falls with each move.
pub mod Invariant
-- Counts of a worker's occurrences in the lists, and sums over the workers.
pub mod Counting
-- Who can move; moves before the fence commute.
pub mod Fence
-- An own step and an arrival keep the invariant, and the measure falls.
pub mod OwnMoves
-- What a ruling does to the invariant and the measure.
pub mod Rulings
-- What a worker holds, by either discipline.
pub mod Locks
-- Every rule is lawful.
pub mod Rules
-- The laws that this machine obeys, for any plan and state.
pub mod Laws
-- The machine of the definitions obeys the laws; what follows for lists of turns.
pub mod Obeys
-- What the invariant bounds.
pub mod Bounds
-- The round-by-round run is one run of moves, from the start to the end.
pub mod ByRounds
-- Demand 3, of the definitions.
pub mod Demand3
-- Demand 3, of the bytes that an accepted run leaves.
pub mod Bytes
-- A record's round has begun when the record is logged, so it fits its two bytes.
pub mod Logged
-- Three: the sum that each commit moves is the sum worked out afresh.
pub mod Sums
-- What a list of turns leaves has the lengths of the buffers that are lent.
pub mod Sizes
-- Two runs side by side: a theorem about any two machines, and what follows for this one.

-- Any two machines that take the same turns: what ties their states together is kept.
pub mod SideBySide
-- A property of each worker by itself, kept by every move.
pub mod EachWorker
-- Five: no worker holds a lock twice.
pub mod Once
-- A state with memory, locks and copies drawn anew: what a move does to it, and what the report shows of it.
pub mod Redrawn
-- Five: a plan that meets neither failure of its locks leaves what it left when they went by count.
pub mod Naming
-- Seven: a working copy is as long as its twin.
pub mod Paired
-- Seven: bytes that nobody named, taken from another memory: load, store and commit go along with it.
pub mod OtherBytes
-- Seven: a run from another memory is the same run with the bytes that nobody named taken from there.
pub mod Unnamed
-- Four: whole cycles end every plan; parts back to back; each accepted plan of a call is run to its end.

-- The listing program's turns are whole cycles, and end the plan.
pub mod Cycles
-- One part is put in its place, and all others stay.
pub mod BatchParts
-- What the separate call of a plan leaves, and that each accepted plan is run to its end.
pub mod Batches
-- Seven: bytes that nobody named, of two calls with one file and of two with the same plans.
pub mod UnnamedBytes
-- The paper's cases, a check on the definitions.

-- Cases 1 to 10 as one table, with the bytes that each leaves.
pub mod Table
-- Plans of Seven as another, with the addresses that they name.
pub mod NamedTable
-- What is to be computed of a case, and what demand 3 gives.
pub mod Worked
-- The definitions yield both.
pub mod Cases
-- The definitions yield case 1's text, byte by byte.
pub mod Texts
