-- Least: the least of some seconds, and what those that stand on a model need to know of its horizon.
pub mod Least
-- Long: schedules that have too many units.
pub mod Long
-- Stands: how the units of a schedule stand in what is recorded, and which of them are computed again.
pub mod Stands
-- Lineages: which models each model stands on, as a row of bits.
pub mod Lineages
-- Marked: the models of a project by name, and the marks of one of them.
pub mod Marked
-- Numbered: the numbers of models among those by name, kept by their places.
pub mod Numbered
-- Sets: parts of tables as the keys of a set.
pub mod Sets
-- Whole: what is due of a model, from what is known of it.
pub mod Whole
