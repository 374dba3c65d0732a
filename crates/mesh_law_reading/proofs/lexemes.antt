pub mod Fronts
pub mod Lexed
pub mod Longest
pub mod Unique
