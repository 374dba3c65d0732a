pub mod Empty
pub mod Followed
pub mod Told
