-- Lineage: what a model reads, and what follows from it. Pairs: a column of a relation, and two names, as a pair.
-- Joinable: models whose adjoining units can be computed as one. Unsteady: the models of a project that aren't
-- steady. Reaches: what those that read a model need to know of it. Alike: lists with the same items. Bound: the
-- columns that a condition binds to the unit. Named: columns whose names lie elsewhere.
pub mod Pairs
pub mod Joinable
pub mod Unsteady
pub mod Reaches
pub mod Alike
pub mod Bound
pub mod Named
