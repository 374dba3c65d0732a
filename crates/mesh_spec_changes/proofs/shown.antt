pub mod Behind
mod Examples
