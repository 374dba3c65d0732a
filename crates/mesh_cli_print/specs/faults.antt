-- Lines: the line that is printed for a fault.
pub mod Lines
