-- Fits: what a definition that a program holds keeps.
pub mod Fits
-- Reading: what stands at the front of some bytes.
pub mod Reading
