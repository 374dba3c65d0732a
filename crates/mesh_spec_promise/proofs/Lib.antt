-- Doubts: more parts in doubt, and parts that leave it.
pub mod Doubts
-- Joined: items that lie in units, unit by unit.
pub mod Joined
-- Units: no row lies in two units of a schedule.
pub mod Units
-- Fits: what a well-formed book tells of a snapshot's definition.
pub mod Fits
-- Tables: a table that is up to date holds its model's rows.
pub mod Tables
-- There: what a definition sees is there under the names of its parents.
pub mod There
-- Views: what the object of a snapshot shows.
pub mod Views
-- ViewNames: a view's name tells its environment and its model.
pub mod ViewNames
-- Ends: what a finalized environment shows.
pub mod Ends
-- Finals: a finalized environment whose models are up to date is final.
pub mod Finals
-- Filled: what a model is filled with is its rows from scratch.
pub mod Filled
-- Found: what is found after an item is exchanged for another of its key.
pub mod Found
-- Staying: a model that is done stays so while another object's version changes.
pub mod Staying
-- Pointed: a view is pointed at the object of an entry.
pub mod Pointed
-- Crons: the crons among a snapshot's ancestors are the book's, and a moment decides the rows of a unit.
pub mod Crons
-- Bags: the test of two lists of rows tells whether they are one bag.
pub mod Bags
-- Seconds: units of one schedule that share a second are one unit.
pub mod Seconds
-- Moments: the moment is raised, or a source is loaded.
pub mod Moments
