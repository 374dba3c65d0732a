-- Running: the due parts of a model stand in runs.
pub mod Running
-- Cutting: the rows of a run, cut to its due parts, are the rows of these.
pub mod Cutting
-- Filling: the due parts of a model are filled from the rows of their jobs.
pub mod Filling
-- Stepping: lists of changes that are made one after another, world by world.
pub mod Stepping
-- Models: a model is made and filled, and then the next one.
pub mod Models
-- Fronting: the rows of models that are computed side by side, and the changes that are made of them.
pub mod Fronting
-- Leading: what makes and fills models over tables that were found before.
pub mod Leading
-- Nexts: the first of some models are made and filled, and then the next ones.
pub mod Nexts
-- Ranks: the models of a plan stand by rank.
pub mod Ranks
-- Fitting: what is due in a plan fits its models.
pub mod Fitting
-- Whole: a plan is looked at and made.
pub mod Whole
-- Books: a plan of a book makes the changes that the book's plan asks for.
pub mod Books
-- More: what comes of one item more.
pub mod More
