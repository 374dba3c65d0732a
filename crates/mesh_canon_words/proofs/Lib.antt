pub mod Digits
pub mod Prefix
