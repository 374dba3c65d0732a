-- touched: the definitions of the module `touched`.
pub mod touched
-- stored: the definitions of the module `stored`.
pub mod stored
-- kept: the definitions of the module `kept`.
pub mod kept
