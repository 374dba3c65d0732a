-- Calls: which calls of an object in memory fail, by their numbers.
pub mod Calls
-- Files: a folder's files, the bytes at a path and the paths below a folder.
pub mod Files
-- Held: what the objects in memory hold.
pub mod Held
-- Told: what an object at the outside tells of itself, and what its calls do.
pub mod Told
