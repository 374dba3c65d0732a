pub mod Digits
pub mod Joined
pub mod Members
pub mod Nodes
pub mod Places
