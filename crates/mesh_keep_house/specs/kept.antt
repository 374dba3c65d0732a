-- Held: what is known of the world that a house holds.
pub mod Held
-- House: a house over a keeper, what it tells, what it begins with, and how its calls fail.
pub mod House
-- Kept: the world of a keeper's records, and what a change makes of it.
pub mod Kept
-- Refused: a keeper over which no house begins.
pub mod Refused
