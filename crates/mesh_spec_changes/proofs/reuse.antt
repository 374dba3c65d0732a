-- Compatible: adding columns, once and again.
pub mod Compatible
-- Examples: categories in small projects, worked out by hand.
pub mod Examples
