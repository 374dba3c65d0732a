-- Promised: the command of the promise that a command line asks for.
pub mod Promised
-- Kept: when a line, and the lines of a script, settle, and what is left then.
pub mod Kept
-- Histories: the events that lead from a world to another.
pub mod Histories
-- Others: what a line leaves of the environments that it isn't for, and of what is recorded.
pub mod Others
-- Stages: what the calls that a command is made of leave, by themselves.
pub mod Stages
-- Promise: what the public call promises where it ends.
pub mod Promise
