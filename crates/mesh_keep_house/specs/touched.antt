-- Touched: the things that a change is about, and the writes by which records follow it.
pub mod Touched
