-- Scripts: the lines of a script, and their words.
pub mod Scripts
-- Splitting: a line that has been split so far.
pub mod Splitting
