-- Ticks: the last tick of a cron is not long before the moment.
pub mod Ticks
-- Nodes: the closures of nodes, one node at a time, and those at some places.
pub mod Nodes
-- Least: the least of some seconds, one at a time, and horizons, one node at a time.
pub mod Least
-- Units: the units of a schedule, counted.
pub mod Units
-- TooLong: the first schedule that is too long.
pub mod TooLong
-- Flags: flags of models that go by those of their parents.
pub mod Flags
-- Near: units that are computed again, from the last one on.
pub mod Near
-- EachModel: what a plan's models are computed again of, from what is known of each.
pub mod EachModel
-- Bits: rows of bits.
pub mod Bits
-- Walk: how units stand, one unit more.
pub mod Walk
-- Rows: the rows of models, one model more.
pub mod Rows
-- Spots: the models of a project by name, one model more.
pub mod Spots
-- Kept: lists in the order of names.
pub mod Kept
-- MarksAre: the marks of a model are those that its row counts.
pub mod MarksAre
-- Keys: parts of tables as the keys of a set.
pub mod Keys
-- EachDue: what is due of a plan's models, from what is known of each.
pub mod EachDue
-- OneMoment: a moment decides what is due.
pub mod OneMoment
-- Places: none of the models by name has the place of another.
pub mod Places
-- LowestBit: the lowest bit of a word, and the word without it.
pub mod LowestBit
-- Numbered: the marks of a model by the bits of a row by numbers.
pub mod Numbered
