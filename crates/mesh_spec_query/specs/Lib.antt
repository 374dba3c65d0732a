-- Cells: operators and functions of cells.
pub mod Cells
-- Macros: the ends of the interval.
pub mod Macros
-- Aggregates: the value of an aggregate over cells.
pub mod Aggregates
-- Ev: the value of an expression.
pub mod Ev
-- Tables: what a query reads.
pub mod Tables
-- Sel: the rows of a query.
pub mod Sel
-- Named: the columns that an expression names.
pub mod Named
