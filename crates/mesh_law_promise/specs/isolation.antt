-- Isolation: what a command leaves of the environments and the tables that it doesn't speak of.
pub mod Isolation
