-- Entries: the objects of a project's models beside their categories, and the models that are gone.
pub mod Entries
-- Intervals: the first model whose schedule has too many units.
pub mod Intervals
-- Plans: what a plan for an environment says, and why there is none.
pub mod Plans
-- Running: what a plan of a run says, and why there is none.
pub mod Running
