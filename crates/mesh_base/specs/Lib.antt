-- Keys: what the items of a book are found by, in which order.
pub mod Keys
-- Outputs: the output columns of a model.
pub mod Outputs
-- Nodes: how many nodes an expression has.
pub mod Nodes
-- rules: the definitions of the module `rules`.
pub mod rules
