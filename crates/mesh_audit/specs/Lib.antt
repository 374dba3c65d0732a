-- Forms: the queries of the audits that need no file.
pub mod Forms
-- Audited: what audits find, in a world and from scratch.
pub mod Audited
-- Pools: the tables that were read last, and for which queries they serve.
pub mod Pools
-- Meant: what the audits that need no file find, in words of the model's own rows.
pub mod Meant
