-- Places: what the tokens from one place up to another spell.
pub mod Places
-- Answers: what a function that takes a token answers where there is none to take.
pub mod Answers
