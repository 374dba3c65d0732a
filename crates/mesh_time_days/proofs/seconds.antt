-- Seconds: the second that a cell stands for.
pub mod Seconds
-- Before: rows whose seconds are all before a range.
pub mod Before
