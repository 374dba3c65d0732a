-- Nodes: the equations of Ev.
pub mod Nodes
-- Shown: what an expression does not name does not change its value.
pub mod Shown
-- Keys: in a group a part that equals a key has the value that it has for each of the group's rows.
pub mod Keys
