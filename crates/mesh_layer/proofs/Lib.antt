-- Asking: what views show: where one is lost, nothing is shown.
pub mod Asking
-- Finding: calls that look for something, one after another.
pub mod Finding
-- Heights: what shows rows shows them through more stored queries too, and there nothing is lost.
pub mod Heights
-- Naming: what a stored query may name.
pub mod Naming
-- Placing: a row is read by place as it is by name.
pub mod Placing
-- Reading: what is read of a house, by name.
pub mod Reading
