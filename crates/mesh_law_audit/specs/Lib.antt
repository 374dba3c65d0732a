-- UpToDate: models that are up to date in a world.
pub mod UpToDate
-- Scratch: what audits find from scratch.
pub mod Scratch
-- Execution: a command that begins, and an apply before its environment gets its models.
pub mod Execution
