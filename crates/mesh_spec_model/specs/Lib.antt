-- Closures: a model with all that it stands on, and the closures of a project.
pub mod Closures
-- Horizons: how far a model's rows go at a moment, and the units of its schedule.
pub mod Horizons
-- Sources: a source cut to what a model declares of it, and the tables that a definition reads.
pub mod Sources
-- Scratch: the rows of a closure from scratch.
pub mod Scratch
