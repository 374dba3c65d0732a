-- Answering: what a command answers, over what it read.
pub mod Answering
