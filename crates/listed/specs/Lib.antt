-- The turns that a plan is listed with, and the run that is listed.
pub mod Listed
-- What is left in the slice that is lent for the text.
pub mod Text
