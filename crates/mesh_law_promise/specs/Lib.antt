-- isolation: the definitions of the module `isolation`.
pub mod isolation
