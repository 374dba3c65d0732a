-- asking: the definitions of the module `asking`.
pub mod asking
-- upkeep: the definitions of the module `upkeep`.
pub mod upkeep
