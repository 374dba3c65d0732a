-- Moments: days and moments, their texts, and the time value of a cell.
pub mod Moments
-- casts: the definitions of the module `casts`.
pub mod casts
-- seconds: the definitions of the module `seconds`.
pub mod seconds
