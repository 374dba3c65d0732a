-- Each: a property of every SELECT of a query.
pub mod Each
-- Sight: what a query may read.
pub mod Sight
-- Typed: when a value is of the type that its expression has.
pub mod Typed
-- Formed: what a model's own definition asks of its file and its parents.
pub mod Formed
-- Operands: when the operands within an expression are of the types that are taken.
pub mod Operands
-- Evaluated: when the operands of all that a query evaluates are of the types that are taken.
pub mod Evaluated
-- lexemes: the definitions of the module `lexemes`.
pub mod lexemes
