-- Parts: the value of a node, from the values of its parts.
pub mod Parts
