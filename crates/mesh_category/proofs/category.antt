-- Among: items that stand among others, one step at a time.
pub mod Among
-- Places: names, and the places of models by their names.
pub mod Places
-- Additions: a definition adds columns exactly where its parts do.
pub mod Additions
-- Alike: parents that are alike, one pair at a time.
pub mod Alike
-- Stand: how the models of projects stand to those of their names.
pub mod Stand
