-- Fitting: the values of a command line are such as its command needs.
pub mod Fitting
-- Commanding: what a command does at its moment.
pub mod Commanding
-- Lining: which lines a script may have.
pub mod Lining
-- Scripting: the lines of a script, one after another.
pub mod Scripting
-- Asking: what is answered where some words or a text ask for a line.
pub mod Asking
-- Ending: what the end of a command says of its changes and of what it printed.
pub mod Ending
