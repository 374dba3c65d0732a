-- Faults: a statement that goes on as none does, or nests too deep.
pub mod Faults
-- Signs: the signs among tokens.
pub mod Signs
-- Brackets: the value of a property, up to its comma or closing parenthesis.
pub mod Brackets
-- Found: what is found in something that may be absent.
pub mod Found
-- Paths: where the file lies that a path names.
pub mod Paths
-- Numbers: the number that a token is, and the longest lookback.
pub mod Numbers
