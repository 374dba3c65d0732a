-- promote: the definitions of the module `promote`.
pub mod promote
-- migrate: the definitions of the module `migrate`.
pub mod migrate
-- janitor: the definitions of the module `janitor`.
pub mod janitor
