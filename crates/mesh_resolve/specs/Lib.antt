-- Relations: what FROM draws, and its conditions.
pub mod Relations
-- Selects: one SELECT.
pub mod Selects
-- Queries: the whole query.
pub mod Queries
-- Owns: the own definition of a model.
pub mod Owns
