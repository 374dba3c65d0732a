-- along: the definitions of the module `along`.
pub mod along
