-- Leads: steps that change a state in its place.
pub mod Leads
-- Outputs: the output columns of a SELECT.
pub mod Outputs
-- Keys: the keys of GROUP BY.
pub mod Keys
-- Commons: the common table expressions that stand before.
pub mod Commons
-- Sides: the sides of each UNION ALL.
pub mod Sides
