-- Words: what stands at the front of some bytes as a word, a number or a text. Tables: words with their values, as
-- code has them.
pub mod Words
pub mod Tables
