-- Places: records by kind and name, what is found of them, and what writes make of them.
pub mod Places
-- Keeping: what a keeper tells of itself, and what its calls do.
pub mod Keeping
-- MapKeeper: what a keeper in memory tells and lists.
pub mod MapKeeper
-- Holds: when records hold a world.
pub mod Holds
-- Said: the world that records say.
pub mod Said
