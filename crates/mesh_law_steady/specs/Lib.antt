-- Days: units that lie within one day.
pub mod Days
-- Near: the tables that a model reads, cut to the rows near a unit.
pub mod Near
-- Kept: what has to hold of a model, so that its computed rows stay.
pub mod Kept
-- Projects: books whose projects are steady.
pub mod Projects
