pub mod Changed
pub mod Found
pub mod Migrated
pub mod Sorting
