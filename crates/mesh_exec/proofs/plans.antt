-- InDays: the units of a schedule that isn't too long lie in the days from the year 1 to the year 9999.
pub mod InDays
-- InOrder: what is due of a plan stands in its order, each part once, and fits its models.
pub mod InOrder
-- Executable: plans can be made.
pub mod Executable
