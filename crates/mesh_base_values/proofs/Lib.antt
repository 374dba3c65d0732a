pub mod Equals
pub mod Tests
pub mod Total
pub mod Unique
