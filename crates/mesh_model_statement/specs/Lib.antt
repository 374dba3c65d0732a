-- Views: what stands behind references.
pub mod Views
-- Answers: what a reader returned beside a definition.
pub mod Answers
-- Faults: what may be wrong with a statement.
pub mod Faults
-- Values: what the value of each property means.
pub mod Values
-- Kinds: what the value of `kind` means, with its entries.
pub mod Kinds
-- Lookbacks: how far incremental models look back.
pub mod Lookbacks
-- Named: how the names of models are.
pub mod Named
-- Statement: the properties of a MODEL statement, one after the other.
pub mod Statement
