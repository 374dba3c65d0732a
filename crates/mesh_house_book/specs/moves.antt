-- Forgets: what a book is where units and marks are forgotten.
pub mod Forgets
-- Held: the versions with seconds that are still to be forgotten.
pub mod Held
-- Moves: renames that are looked up.
pub mod Moves
-- Renames: what a book is where snapshots get other fingerprints.
pub mod Renames
