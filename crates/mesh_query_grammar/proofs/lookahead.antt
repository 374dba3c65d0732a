pub mod NextToken
pub mod Neither
