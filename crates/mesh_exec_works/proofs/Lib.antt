-- Places: the models of a plan by their places.
pub mod Places
-- Parents: the tables that models read, parent by parent.
pub mod Parents
-- Frames: an object stays as it is where another one is made or filled.
pub mod Frames
-- Ahead: the tables that were found before some models were made are those that are found afterwards.
pub mod Ahead
-- Pools: the tables of the first of some models, one model after another.
pub mod Pools
-- More: one place more, and what was read as what is made of it.
pub mod More
-- Pushed: items that are pushed one after another, and what they are made of.
pub mod Pushed
