-- Walk: what stays, by descending rank.
pub mod Walk
-- Sweeping: what a call of the janitor leaves of a house.
pub mod Sweeping
