-- Changes: what each kind of change makes of a book.
pub mod Changes
-- WellFormed: when a book is well formed, and where it first isn't.
pub mod WellFormed
-- Named: parents as references.
pub mod Named
-- moves: the definitions of the module `moves`.
pub mod moves
