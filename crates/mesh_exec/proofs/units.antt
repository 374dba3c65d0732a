-- Free: what has no macro has one value for all intervals.
pub mod Free
-- DayOrder: the texts of days are in the order of the days.
pub mod DayOrder
-- Within: a time that lies in a unit meets the conjunct that binds it.
pub mod Within
-- Bound: a condition that binds a column holds alike for two intervals that the time lies in.
pub mod Bound
-- Cuts: the rows of a run, cut to a unit.
pub mod Cuts
