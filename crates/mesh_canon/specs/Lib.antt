-- canon: the definitions of the module `canon`.
pub mod canon
