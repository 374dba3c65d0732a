-- Gathered: the columns of a SELECT, part by part.
pub mod Gathered
-- Bindings: the equations of `binds`.
pub mod Bindings
-- Least: the least of some names.
pub mod Least
-- Places: one place more, and one source more.
pub mod Places
-- Tops: the equations of `bounds`.
pub mod Tops
-- Broken: one FROM item more, one SELECT more, one CTE more.
pub mod Broken
-- Steady: a model is steady exactly where no name breaks the rule.
pub mod Steady
-- ByName: pairs that are put in order from the last one on.
pub mod ByName
-- Nodes: what is known of a project's models, one node at a time.
pub mod Nodes
-- Examples: models worked out by hand.
pub mod Examples
-- Alike: lists that have the same items.
pub mod Alike
-- Orders: readings in order, of lists with the same items, of a list that ascends, and as a set has them.
pub mod Orders
