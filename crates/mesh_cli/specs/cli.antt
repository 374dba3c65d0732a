-- Sides: what lies outside of a command, as it tells of itself.
pub mod Sides
-- Asked: what each command makes and gives.
pub mod Asked
-- Ends: how a command ends.
pub mod Ends
-- Scripts: how the lines of a script end.
pub mod Scripts
-- Fit: what the values of a command line keep.
pub mod Fit
