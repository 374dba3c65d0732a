-- InSight: what is in sight, as contracts see it.
pub mod InSight
-- Sight: the columns and macros that an expression may name.
pub mod Sight
-- Sole: none, one or several.
pub mod Sole
