-- Splits: the first run of what is due, and the runs behind it.
pub mod Splits
-- Differing: the models that a project no longer has, one after another.
pub mod Differing
-- Written: a moment's text is the definition's.
pub mod Written
