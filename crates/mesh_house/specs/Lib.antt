-- Booked: the book's part in the changes of a world.
pub mod Booked
-- Fails: which calls of a house in memory fail.
pub mod Fails
-- Gone: a world of which something is still to go.
pub mod Gone
-- House: what a house tells of itself, and what its calls do.
pub mod House
-- Latest: what is known of the table that was written last.
pub mod Latest
-- Memory: what a house in memory tells and lists.
pub mod Memory
-- Objects: the names that objects have.
pub mod Objects
-- Outside: lists without the items of some keys.
pub mod Outside
-- Sources: the names that sources have.
pub mod Sources
-- Step: what each kind of change makes of a world.
pub mod Step
-- Runs: what a call that makes a list of changes leaves of a house, whole or stopped.
pub mod Runs
-- World: what a world has, and what is read of it.
pub mod World
