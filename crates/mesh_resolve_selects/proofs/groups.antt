-- Placed: the equations of `placed`.
pub mod Placed
-- Broken: the first place where the rule is broken, from the end backwards.
pub mod Broken
-- Parts: what a node bars, from what its parts do.
pub mod Parts
