-- Gives: what a reader returned, beside what a definition gives.
pub mod Gives
-- Letters: the bytes that blanks, words, numbers and signs are made of.
pub mod Letters
-- Pieces: the piece that a text begins with: a blank, a comment or a token.
pub mod Pieces
-- Text: the tokens of a text.
pub mod Text
-- Walk: steps up to the first fault.
pub mod Walk
-- bounds: the definitions of the module `bounds`.
pub mod bounds
