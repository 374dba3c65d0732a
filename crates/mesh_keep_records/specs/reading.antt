-- Reading: the thing that a body says.
pub mod Reading
