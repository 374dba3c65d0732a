-- Promotion: the changes that give an environment its list and its views.
pub mod Promotion
