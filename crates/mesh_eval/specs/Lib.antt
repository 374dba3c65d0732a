-- Ties: equal values that a condition asks for.
pub mod Ties
-- Trimmed: rows of a FROM without some that give no row of the query.
pub mod Trimmed
-- Placed: expressions bound before the first row, and their values at rows.
pub mod Placed
