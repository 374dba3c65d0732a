-- Cells: what a field of a record is as a cell.
pub mod Cells
-- Headers: the names of a header, and its first fault.
pub mod Headers
-- Seeds: what a seed's file says.
pub mod Seeds
-- Fits: when rows fit columns, and when a column's cells are numbers.
pub mod Fits
