-- Meaning: the value of a bound expression, and when it is an expression's.
pub mod Meaning
