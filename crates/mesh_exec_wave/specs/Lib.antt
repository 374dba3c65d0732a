-- claims: the definitions of the module `claims`.
pub mod claims
-- wave: the definitions of the module `wave`.
pub mod wave
