-- Frames: what a bound expression is given, as a frame has it.
pub mod Frames
-- bound: the definitions of the module `bound`.
pub mod bound
