pub mod Places
pub mod Unlike
pub mod Steps
pub mod Room
pub mod Loops
pub mod Tests
