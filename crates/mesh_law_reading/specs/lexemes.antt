-- Lexemes: the bytes that spell a token, and how tokens stand in a text.
pub mod Lexemes
