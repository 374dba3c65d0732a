-- Linked: how a chain goes on, and one more place in front of it.
pub mod Linked
-- Found: what a walk along a chain finds.
pub mod Found
-- OneOfEach: one of each, and which is the first of its kind.
pub mod OneOfEach
