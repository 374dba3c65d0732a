pub mod Places
pub mod Among
pub mod Steps
mod Alone
pub mod Loops
pub mod Agree
pub mod Local
pub mod Tables
