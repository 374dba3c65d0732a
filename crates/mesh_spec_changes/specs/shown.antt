-- Shown: the rows behind an object and behind a view.
pub mod Shown
