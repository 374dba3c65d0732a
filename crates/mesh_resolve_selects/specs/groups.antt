-- Grouping: the rule on groups.
pub mod Grouping
-- Sizes: how many nodes an expression has.
pub mod Sizes
