-- ByOrder: names that ascend stand by their order.
pub mod ByOrder
-- Pushed: one item more, and what was made of it.
pub mod Pushed
