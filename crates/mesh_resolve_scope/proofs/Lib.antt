-- Layers: what each layer of an expression stands for.
pub mod Layers
-- NameLayers: what each layer of an expression is as a single name.
pub mod NameLayers
-- Answered: a form over the answers for its operands.
pub mod Answered
-- Loops: the loops of the walk.
pub mod Loops
