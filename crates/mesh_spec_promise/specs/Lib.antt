-- Sound: worlds that are kept well, but perhaps for the rows of some parts.
pub mod Sound
-- Moved: the recorded parts whose rows from scratch change.
pub mod Moved
-- Current: models whose tables are up to date.
pub mod Current
-- Final: what an environment shows once it is finalized.
pub mod Final
-- Histories: commands, one after another, each made up to any of its changes; and the promise.
pub mod Histories
