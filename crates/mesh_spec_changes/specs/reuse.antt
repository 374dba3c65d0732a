-- Cores: what a model needs of its ancestors, and models that need the same.
pub mod Cores
-- Compatible: models that only add columns to others.
pub mod Compatible
-- Categories: how a model stands to the one that it is compared with.
pub mod Categories
