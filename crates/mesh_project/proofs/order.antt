-- Numbers: lists of numbers, and what stands in them.
pub mod Numbers
-- Places: where models stand by their names, and the places of those that each one reads.
pub mod Places
-- Walking: walks from model to model.
pub mod Walking
-- Answering: from ranks and what is left to an order or a cycle.
pub mod Answering
-- Uniqueness: one order, one list of names on cycles, and never both.
pub mod Uniqueness
-- Peeling: one rank more, and where it ends.
pub mod Peeling
