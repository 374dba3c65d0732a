-- InTurn: the models of a ready plan are made and filled one after another.
pub mod InTurn
-- Names: references and objects by name.
pub mod Names
-- Promoting: an environment gets its list and its views.
pub mod Promoting
-- Applying: an apply, and a run.
pub mod Applying
-- Lists: the list of an environment is that of the models of its run.
pub mod Lists
-- Promise: commands, and histories.
pub mod Promise
