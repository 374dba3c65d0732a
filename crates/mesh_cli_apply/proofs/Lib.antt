-- Ends: the changes of a plan's models with some last ones behind them.
pub mod Ends
-- Promised: the changes of a plan are those that the promise has for its command.
pub mod Promised
-- Whole: what is left of a house once a plan's changes were to be made.
pub mod Whole
-- Listed: the models of a plan, by name, are its references and its objects.
pub mod Listed
-- Refusing: why nothing is planned, and what is answered where nothing is changed.
pub mod Refusing
-- Loading: what is answered of the project in a folder.
pub mod Loading
-- Making: what is answered once the changes of a plan were to be made.
pub mod Making
-- Migrated: a book is moved by its map.
pub mod Migrated
-- ByName: an entry is put into a map as its model is put at its place.
pub mod ByName
-- Applied: an apply and a run, step by step.
pub mod Applied
-- Traced: what `trace` and `impact` find, and what they answer.
pub mod Traced
