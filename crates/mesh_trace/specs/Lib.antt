-- Traces: what a model's columns are fed by, and what they feed.
-- Feeds: what the columns of a model are fed by.
pub mod Feeds
-- Traces: a column's trace, and the columns whose traces have it.
pub mod Traces
-- Asks: what is asked of the models, while a trace goes down.
pub mod Asks
-- Pairs: traces as pairs, which have their order.
pub mod Pairs
-- Impacts: the columns that hang on one, one model at a time.
pub mod Impacts
