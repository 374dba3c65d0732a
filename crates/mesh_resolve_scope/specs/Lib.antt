-- Expressions: the walk through an expression.
pub mod Expressions
-- Steps: the steps of the walk, one part of a chain after the other.
pub mod Steps
-- Lone: a single name.
pub mod Lone
-- Sizes: how many nodes an expression has with the copies of operands.
pub mod Sizes
-- sight: the definitions of the module `sight`.
pub mod sight
