-- Prints: fingerprints that stand in a list once, or more often.
pub mod Prints
-- Books: the snapshots of a well-formed book, each under its own name and fingerprint.
pub mod Books
-- Alone: whether a model's fingerprint stands for it alone.
pub mod Alone
-- Tells: what a fingerprint stands for, and what that tells of a model.
pub mod Tells
-- Choices: the first free name, as it is looked for.
pub mod Choices
-- Placing: items that are put at their places in either order.
pub mod Placing
-- Ranks: snapshots by rank and name, and their places.
pub mod Ranks
-- Steps: references and objects, one after another.
pub mod Steps
-- Without: models that are alone are a plan without a clash.
pub mod Without
