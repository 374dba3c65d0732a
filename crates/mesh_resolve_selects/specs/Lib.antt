-- groups: the definitions of the module `groups`.
pub mod groups
-- outputs: the definitions of the module `outputs`.
pub mod outputs
-- selects: the definitions of the module `selects`.
pub mod selects
