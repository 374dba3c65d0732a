pub mod Digits
pub mod Names
pub mod OfKind
pub mod OneWorld
pub mod Said
pub mod Things
pub mod Written
