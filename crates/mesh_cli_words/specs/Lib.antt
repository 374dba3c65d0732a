-- Words: which words a command line has, as rules.
pub mod Words
-- Lines: what a command line asks for.
pub mod Lines
