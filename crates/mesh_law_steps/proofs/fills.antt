-- Kept: what a change of one object leaves as it was.
pub mod Kept
-- Twins: what all snapshots with a model's object share.
pub mod Twins
-- Readable: models that stay up to date.
pub mod Readable
-- Making: a model's table or view is made.
pub mod Making
-- Done: when a model is done.
pub mod Done
-- Whole: a seed, a view and a FULL model are filled.
pub mod Whole
-- Unit: one unit of an incremental model is filled.
pub mod Unit
-- Units: an incremental model is filled.
pub mod Units
-- Filled: a model is made and filled.
pub mod Filled
