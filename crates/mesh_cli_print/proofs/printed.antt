-- Growing: texts of records that are written one after another.
pub mod Growing
