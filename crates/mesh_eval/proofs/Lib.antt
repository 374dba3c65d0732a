-- Picked: rows at places
pub mod Picked
-- Tied: conditions that ask for equal values
pub mod Tied
-- Steps: one more row, in the loops of joins
pub mod Steps
-- Trimmed: rows that give no row of the query may be left out of a FROM
pub mod Trimmed
-- Sides: where the columns of a node stand
pub mod Sides
-- Placed: rows of values where expressions are bound
pub mod Placed
