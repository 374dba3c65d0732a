-- Bag: lists of rows as bags, by counts, and ascending ones.
pub mod Bag
-- Crons: the sets of a cron, and which ones a crontab can say.
pub mod Crons
-- Kinds: what a kind says of time.
pub mod Kinds
-- Names: identifiers, schemas, and the order of names.
pub mod Names
-- NameOrder: that order is total, and ties only a name with itself.
pub mod NameOrder
-- Order: the order of cells and rows.
pub mod Order
-- Picked: the columns that a query picks of a table.
pub mod Picked
-- Types: equal types of columns.
pub mod Types
