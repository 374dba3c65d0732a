-- Held: a cell that lies elsewhere, or one that was made. Plain: a cell that owns no memory.
pub mod Held
pub mod Plain
-- joins: the definitions of the module `joins`.
pub mod joins
