-- ColumnSteps: columns, one after the other.
mod ColumnSteps
-- PropertySteps: properties, one after the other.
mod PropertySteps
-- Refusing: a step that refuses ends the reading.
pub mod Refusing
