-- Joined: what is written piece by piece, and item by item.
pub mod Joined
