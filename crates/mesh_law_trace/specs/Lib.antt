-- Varied: models over seeds and sources that differ where no trace has them.
pub mod Varied
