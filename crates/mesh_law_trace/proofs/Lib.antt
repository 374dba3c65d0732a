pub mod Cut
pub mod Traced
