-- Views: what a move to other fingerprints leaves of views.
pub mod Views
-- Alike: models that differ in their fingerprints alone have the same dues.
pub mod Alike
-- Runs: the plans of a run before and after.
pub mod Runs
