pub mod Along
pub mod Order
pub mod Steps
