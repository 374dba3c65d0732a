-- seeds: the definitions of the module `seeds`.
pub mod seeds
-- external: the definitions of the module `external`.
pub mod external
