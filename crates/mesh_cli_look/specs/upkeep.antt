-- Upkeep: what the commands that keep a book in order make, and why they are refused.
pub mod Upkeep
-- Sourced: the rows that a file of the project has for a declared source.
pub mod Sourced
-- Ingesting: what `ingest` makes and answers.
pub mod Ingesting
