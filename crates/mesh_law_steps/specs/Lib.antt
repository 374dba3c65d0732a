-- again: the definitions of the module `again`.
pub mod again
