-- Standing: what stands behind the entries of an environment, and shows rows.
pub mod Standing
-- Targets: what the object of a snapshot reads.
pub mod Targets
-- Looking: what is looked at for the rows of a planned model.
pub mod Looking
-- Plans: the plans of an apply and of a run are apart.
pub mod Plans
-- Leaving: what no change of a sweep touches.
pub mod Leaving
-- Sweeping: what the views of environments that stay show along a sweep.
pub mod Sweeping
