-- Counted: how many different cells there are
pub mod Counted
-- Nodes: the value of a node, from the values of its parts
pub mod Nodes
-- Plains: values that take no memory
pub mod Plains
-- Steps: one item more of what a loop is over
pub mod Steps
