-- Formed: lists of changes along which a world stays sound but for some parts.
pub mod Formed
-- Making: a model's table or view is made.
pub mod Making
-- Filling: a model is filled.
pub mod Filling
-- Units: an incremental model is filled.
pub mod Units
-- One: a model is made and filled.
pub mod One
-- Whole: what fills a model is there, and nothing dangles.
pub mod Whole
-- InTurn: the models of a plan are made and filled one after another.
pub mod InTurn
-- Applying: an apply, and a run.
pub mod Applying
-- Commands: every command.
pub mod Commands
-- Shown: the models of a plan show rows once they are made.
pub mod Shown
