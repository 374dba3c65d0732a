-- category: the definitions of the module `category`.
pub mod category
-- versions: the definitions of the module `versions`.
pub mod versions
