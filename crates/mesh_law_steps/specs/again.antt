-- Swept: what a sweep leaves of a world.
pub mod Swept
