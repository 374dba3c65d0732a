-- Moments: a moment decides a model's horizon and rows.
pub mod Moments
-- Least: horizons, by those of ancestors.
pub mod Least
-- Rows: what a model's rows are, by its kind.
pub mod Rows
-- Listed: a project's closures.
pub mod Listed
-- Examples: small models and what they have, worked out by hand.
pub mod Examples
-- Cut: sources as declared, and rows of a unit.
pub mod Cut
-- Floors: a tick is floored to the start of its unit.
pub mod Floors
-- Clocks: each cron has a last tick at each moment, and each moment a clock that shows it.
pub mod Clocks
