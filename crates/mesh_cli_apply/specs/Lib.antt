-- Loaded: what the files of a project mean, as a command tells it.
pub mod Loaded
-- Planning: the plan of a command, and why there is none.
pub mod Planning
-- Applying: what the commands that plan make and print, and why they are refused.
pub mod Applying
-- Making: what is left of a house once the changes of a plan were to be made.
pub mod Making
-- Made: what a plan has to be for its changes to be made, and what is answered of it.
pub mod Made
-- Listing: the models of a plan with their objects, by name.
pub mod Listing
-- Migrating: the same of moving a book.
pub mod Migrating
-- Tracing: what `trace` and `impact` print, and why they are refused.
pub mod Tracing
