-- Order: what a model reads and reaches, ranks, the order of models by rank and name, and the models of a cycle.
pub mod Order
-- Links: models as numbers, with the places of those that each one reads.
pub mod Links
-- Peeled: models by rank, one rank after another, and those that are left.
pub mod Peeled
-- Seen: the places that are reached from one.
pub mod Seen
-- Laws: what holds of orders, ranks and cycles, whatever the models are.
pub mod Laws
