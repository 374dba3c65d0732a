-- Loading: what one change leaves where its call stopped.
pub mod Loading
-- Sweeps: what the janitor's call leaves, as a command tells it.
pub mod Sweeps
