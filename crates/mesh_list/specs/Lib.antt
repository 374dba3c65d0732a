-- Counts: how a count rises, and stands still at its type's end.
pub mod Counts
-- Keyed: what is found in a list by a key, and an item put at its place.
pub mod Keyed
-- formers: a type may refer to itself through `Seq` and `Boxed`.
pub mod formers
