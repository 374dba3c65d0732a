pub mod Exchanged
pub mod Halves
pub mod Parents
pub mod Relations
pub mod Breaches
