-- Adding: a definition that adds columns to another, part by part.
pub mod Adding
-- Gone: names, the places of models by their names, and those that are gone.
pub mod Gone
-- Stated: the models of a project as they are compared, and the category of each.
pub mod Stated
-- Alike: parents that are compatible pair by pair.
pub mod Alike
