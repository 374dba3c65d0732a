-- Clashes: when a fingerprint doesn't stand for one model, and the first model of a project at which that shows.
pub mod Clashes
-- Standing: the snapshots that a list names, by rank and name, and their places.
pub mod Standing
-- Index: what is looked up of a book, a project and a list.
pub mod Index
-- Objects: the object of a model, as it is looked for.
pub mod Objects
