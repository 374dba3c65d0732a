-- index: the definitions of the module `index`.
pub mod index
-- joined: the definitions of the module `joined`.
pub mod joined
