pub mod Ascends
pub mod Each
pub mod Found
pub mod Placed
pub mod Standing
