-- Alike: inputs that a query can't tell apart.
pub mod Alike
-- Reads: the columns that a definition reads.
pub mod Reads
-- Cuts: tables cut to them, and tables that agree on them.
pub mod Cuts
-- Loads: sources that a model can't tell apart.
pub mod Loads
-- Found: what a query names is found among the tables that it reads.
pub mod Found
