-- Beside: what a project is compared with, as the promise sees it.
pub mod Beside
-- Models: the models of a plan, beside their nodes, closures and entries.
pub mod Models
-- Whole: plans, as wholes.
pub mod Whole
-- Runs: plans of runs, as wholes.
pub mod Runs
-- Longest: the first model whose schedule is too long.
pub mod Longest
