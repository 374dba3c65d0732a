-- Lists: lists in order, and what stands in them.
pub mod Lists
-- Books: what a well-formed book tells of one of its snapshots.
pub mod Books
-- Depths: a snapshot's closure has those of its parents.
pub mod Depths
-- Closings: closures stay where snapshots are put.
pub mod Closings
-- Entries: the entries of a list, by rank and name.
pub mod Entries
-- Projects: the project of a list, and its closures.
pub mod Projects
-- Examples: a small book, its closures and the project of its list, worked out by hand.
pub mod Examples
