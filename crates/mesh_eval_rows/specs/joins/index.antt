-- Places: the places of a list, and chains of them.
pub mod Places
-- Hashes: a number for each row.
pub mod Hashes
-- Even: rows of one width.
pub mod Even
-- Lies: rows, however they lie.
pub mod Lies
