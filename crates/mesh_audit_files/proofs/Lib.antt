-- Walking: what comes of the steps that are left comes of all.
pub mod Walking
-- Unknown: calls that ran out of memory.
pub mod Unknown
