pub mod NameSets
pub mod Onto
pub mod Sides
