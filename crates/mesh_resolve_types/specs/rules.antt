-- Kinds: the types of expressions, which of them go together, and what casts and sums make of them.
pub mod Kinds
