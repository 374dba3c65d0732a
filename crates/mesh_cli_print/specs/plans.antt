-- Moments: the texts of moments.
pub mod Moments
-- Runs: longest runs of adjoining due units.
pub mod Runs
-- PlanText: what is printed of a plan.
pub mod PlanText
