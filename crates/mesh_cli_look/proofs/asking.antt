-- Looking: one step of a command that only looks, and then the next.
pub mod Looking
-- Evaluating: the rows of a model whose parents' views are lost.
pub mod Evaluating
