-- Loading: what a call that asks the folder answers.
pub mod Loading
-- Places: where the files of a project stand in a folder.
pub mod Places
-- Models: what a model's file says, with the seed that it names.
pub mod Models
-- Kept: what every model that is read keeps.
pub mod Kept
-- Project: what the files of a project say, or their first fault.
pub mod Project
