-- Joined: rows of the items of a FROM, as the code keeps them.
pub mod Joined
-- Spots: where a cell of a joined row lies.
pub mod Spots
