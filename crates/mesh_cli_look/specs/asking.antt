-- Looks: what a command that only looks answers.
pub mod Looks
-- Fetched: the text of the rows of a query over an environment's models.
pub mod Fetched
-- Evaluated: the text of the rows of an environment's model, evaluated for some days.
pub mod Evaluated
