-- scripts: the definitions of the module `scripts`.
pub mod scripts
-- options: the definitions of the module `options`.
pub mod options
