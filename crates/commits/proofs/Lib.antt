-- Sums of words.
pub mod Words
-- The commit of a stretch of bytes.
pub mod Writing
-- A commit, byte by byte and page by page.
pub mod Commits
