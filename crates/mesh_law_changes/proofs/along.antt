-- Along: what is known along a list of changes.
pub mod Along
