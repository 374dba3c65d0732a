-- Drawing: what one more number changes.
pub mod Drawing
-- Placing: where each number was drawn, each place is filled.
pub mod Placing
-- Ascending: rows in ascending order.
pub mod Ascending
-- Models: the rows of a job that is made for a model.
pub mod Models
-- Crossing: what threads share.
pub mod Crossing
