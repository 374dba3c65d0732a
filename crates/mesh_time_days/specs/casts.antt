-- Dates: days and their texts.
pub mod Dates
-- Casts: a cell as another type.
pub mod Casts
