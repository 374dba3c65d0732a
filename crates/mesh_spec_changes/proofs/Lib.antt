-- Distinct: lists whose items get other keys, no two of them the same.
pub mod Distinct
-- Migrating: snapshots that get other fingerprints keep their closures.
pub mod Migrating
-- Examples: small commands and how many changes they make, worked out by hand.
pub mod Examples
