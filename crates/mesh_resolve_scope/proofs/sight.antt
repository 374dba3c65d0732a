-- Soles: none, one or several.
pub mod Soles
