-- Steps: each step keeps the rule.
pub mod Steps
-- Once: numbers are drawn once each.
pub mod Once
