-- Lost: where showing an object stops.
pub mod Lost
-- Shows: what a call that shows something answers.
pub mod Shows
-- Places: where columns stand, so that rows are read by place.
pub mod Places
-- Read: what is read of a warehouse to show an object.
pub mod Read
-- Asked: what views show, and what a query over an environment's views answers.
pub mod Asked
