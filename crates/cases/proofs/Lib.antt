-- Plans of One, Two, Three and Five, with the bytes that each leaves; two of Five by count.
pub mod Requested
-- Calls with several plans, of Four.
pub mod BatchTable
-- A plan for each op, of Six.
pub mod PointTable
-- Plans of Seven, from several memories.
pub mod UnnamedTable
-- The definitions yield them all: the table of cases, whole, and those beside it.
pub mod AllCases
