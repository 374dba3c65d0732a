-- Relations: what a definition reads, its sources and its parents.
pub mod Relations
-- Proper: what a definition and its parents have to be, and proper projects.
pub mod Proper
-- Seen: what a query names is there.
pub mod Seen
