-- Times: the second that a cell stands for, and the rows that lie in a unit.
pub mod Times
-- Rows: the rows of a table that lie in a range of seconds.
pub mod Rows
