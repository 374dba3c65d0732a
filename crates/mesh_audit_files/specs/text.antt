-- Replaced: tokens in which a model's name stands for `@this_model`.
pub mod Replaced
-- Entries: what the value of a model's `audits` lists.
pub mod Entries
-- Statement: the properties of an AUDIT statement.
pub mod Statement
-- Texts: what an audit's file says, or its first fault.
pub mod Texts
