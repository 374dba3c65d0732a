-- Executed: the changes of a plan.
pub mod Executed
-- Sources: the sources of due models, looked at before anything is changed.
pub mod Sources
-- Runs: the due parts of a model that one query computes.
pub mod Runs
-- Jobs: the queries by which the rows of runs are computed.
pub mod Jobs
-- Answers: what a call that makes a plan leaves of a house.
pub mod Answers
-- Fills: how the due parts of one model are filled.
pub mod Fills
-- Steps: what the models of a plan make of a house, one after another.
pub mod Steps
-- Planned: a plan beside the plan of a project's nodes in a book.
pub mod Planned
-- Cuts: models that may be computed side by side.
pub mod Cuts
-- Fronts: models whose rows are computed side by side, before any of them is made.
pub mod Fronts
-- units: the definitions of the module `units`.
pub mod units
