-- Waves: the rows of each job.
pub mod Waves
-- Workers: what workers leave of the numbers that they drew.
pub mod Workers
