pub mod LastOpen
pub mod Steps
pub mod Folders
pub mod PathSteps
