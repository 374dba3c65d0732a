-- demo: the definitions of the module `demo`.
pub mod demo
-- cli: the definitions of the module `cli`.
pub mod cli
-- promise: the definitions of the module `promise`.
pub mod promise
