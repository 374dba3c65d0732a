-- Well: closures whose models are well formed with their parents.
pub mod Well
-- Shared: books in which only twins share a table.
pub mod Shared
