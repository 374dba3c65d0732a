-- Parts: what is computed at once and recorded, and lists of such parts as tests.
pub mod Parts
-- Marks: how far a model and the tables that it stands on go.
pub mod Marks
-- Versions: the name of the table or the stored query of a model.
pub mod Versions
-- Plans: the models of a plan, and what a book has of them.
pub mod Plans
-- Dues: what is computed again, and what is due.
pub mod Dues
