pub mod Refusing
pub mod Words
pub mod Named
pub mod Completed
pub mod Settled
