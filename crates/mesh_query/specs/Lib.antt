-- Sizes: how many nodes an expression has, and the limit of them.
pub mod Sizes
-- Counts: how many nodes are left when reading has come so far.
pub mod Counts
-- Refusals: why tokens are refused.
pub mod Refusals
-- Answers: what a function of the descent answers.
pub mod Answers
-- Rests: what is left of some rules when their beginnings have been read.
pub mod Rests
