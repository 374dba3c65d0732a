-- Once: a model and all that it stands on have distinct names.
pub mod Once
-- Models: each model of a plan stands behind its parents.
pub mod Models
-- Fitting: the snapshot of a model fits a book that has its parents'.
pub mod Fitting
-- Objects: the object of a planned model.
pub mod Objects
-- Putting: what is found in a book after a snapshot is put.
pub mod Putting
-- Tables: what is recorded of a table is so for a twin.
pub mod Tables
-- Steps: a world in which the first models of a plan are put, and the next one.
pub mod Steps
-- Puts: the models of a plan are put, one after another.
pub mod Puts
