-- Rows: words that are taken and words that are refused, by computation.
pub mod Rows
-- Asking: what a command's words give, and which words give none.
pub mod Asking
-- Below: elements of a list that are passed over one after another.
pub mod Below
-- Grown: what a command has with one more argument, or with another command below it.
pub mod Grown
-- Ruled: the rule of an argument after a setting of it was changed.
pub mod Ruled
