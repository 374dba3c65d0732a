pub mod Said
pub mod Exactly
pub mod Read
