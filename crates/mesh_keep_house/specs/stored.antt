-- Faults: why records aren't read.
pub mod Faults
-- Loads: what reading records comes to, and what it leaves of a keeper.
pub mod Loads
-- Begun: the records that a warehouse begins with.
pub mod Begun
