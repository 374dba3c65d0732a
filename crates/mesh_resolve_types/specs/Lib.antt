-- Faults: what may be wrong with a query, and where.
pub mod Faults
-- Kinds: the types of expressions, and text literals that are dates.
pub mod Kinds
-- Forms: each form of an expression, with the types that it asks for.
pub mod Forms
-- Sizes: how large a CASE is.
pub mod Sizes
-- rules: the definitions of the module `rules`.
pub mod rules
