-- Units: units of the calendar, and units that one interval has.
pub mod Units
