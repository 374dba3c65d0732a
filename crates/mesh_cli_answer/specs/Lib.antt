-- Answers: what a command answers, and what it leaves of a house.
pub mod Answers
-- Present: whether a book is as a command needs it.
pub mod Present
-- Loads: a fault of loading, as a command tells it.
pub mod Loads
