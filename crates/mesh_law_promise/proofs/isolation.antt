-- Elsewhere: what a change leaves of the environments, the views and the objects that it isn't about.
pub mod Elsewhere
-- Fills: what makes and fills a plan's models is about their objects alone.
pub mod Fills
-- Others: the environments that a command doesn't switch.
pub mod Others
-- Janitor: nor does the janitor take away, or add, the record of one that isn't over.
pub mod Janitor
-- Holds: what holds at each exit of a list of changes.
pub mod Holds
-- Rows: a table that keeps the rows of a part of it.
pub mod Rows
-- Units: an incremental table keeps the rows of a unit.
pub mod Units
-- Turns: what holds while the models of a plan are made and filled one after another.
pub mod Turns
-- Models: a recorded model is filled in its turn with the rows that it has, and what of it isn't due isn't filled.
pub mod Models
-- Plans: what holds of a table at each exit of an apply and of a run.
pub mod Plans
-- Tables: what is recorded of a table keeps its rows, where a part of them is held along a command.
pub mod Tables
-- Recorded: what is recorded of a table and isn't in doubt keeps its rows, where a command settles.
pub mod Recorded
-- Spared: what is recorded of a table and isn't computed again keeps its rows, whether it settles or not.
pub mod Spared
