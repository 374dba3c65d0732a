-- Closing: a snapshot with all that it stands on, as a book has it.
pub mod Closing
-- Listed: the project of a list of snapshots.
pub mod Listed
