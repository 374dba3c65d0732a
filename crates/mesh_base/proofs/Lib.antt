-- Equal: the test of equal expressions is equality.
pub mod Equal
mod Examples
