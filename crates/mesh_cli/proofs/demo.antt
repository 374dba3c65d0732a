-- Pieces: pieces of a text, one behind another.
pub mod Pieces
-- Playing: what comes of a command and of the next ones.
pub mod Playing
