-- Arriving: sources that stay as they are.
pub mod Arriving
-- Examples: steady and even models, worked out by hand.
pub mod Examples
