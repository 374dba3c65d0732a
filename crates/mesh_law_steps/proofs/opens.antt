-- Lists: what holds of each item, and tests of lists.
pub mod Lists
-- Parts: parts in lists, and models that are apart.
pub mod Parts
-- Forgotten: versions of which a list of parts is forgotten.
pub mod Forgotten
-- Again: what is computed again, and what is due, by models.
pub mod Again
-- Opened: what is recorded of a plan's models once it is opened.
pub mod Opened
-- Ready: a plan is ready once it is opened.
pub mod Ready
-- Ranked: models of a proper project.
pub mod Ranked
-- Plans: the models of a project's plan.
pub mod Plans
-- Runs: the models of a run.
pub mod Runs
