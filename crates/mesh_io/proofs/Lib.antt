pub mod Edited
pub mod Listed
pub mod Moved
pub mod Taken
