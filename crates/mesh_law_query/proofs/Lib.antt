-- Lists: what holds of each element.
pub mod Lists
-- Perm: lists in another order.
pub mod Perm
-- Amounts: aggregates don't hang on the order.
pub mod Amounts
-- Members: nor does the value of an expression for a group.
pub mod Members
-- Bags: nor do the rows of a query, as a bag.
pub mod Bags
-- Zips: two lists related one by one.
pub mod Zips
-- Has: what stands in a list.
pub mod Has
-- ReadColumns: what a definition reads is exactly what it names.
pub mod ReadColumns
-- Reading: a query's rows hang on the columns that it reads alone.
pub mod Reading
-- Cutting: tables that are cut to what a query reads.
pub mod Cutting
-- ReadBags: a query's rows as bags, over the columns that it reads.
pub mod ReadBags
-- Models: a model's rows as bags.
pub mod Models
-- Finding: a well-formed definition finds all that it names.
pub mod Finding
-- Projects: the models of a proper project are well formed with their parents' closures.
pub mod Projects
-- Examples: sources that a model can't tell apart, worked out by hand.
pub mod Examples
