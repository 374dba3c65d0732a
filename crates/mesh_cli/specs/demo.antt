-- Shop: the shop project, as the files of a folder.
pub mod Shop
-- Lines: what a demonstration prints of each answer.
pub mod Lines
-- Demos: what a demonstration prints.
pub mod Demos
