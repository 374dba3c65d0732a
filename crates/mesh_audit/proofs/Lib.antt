-- Gathering: what each of a list gives, one behind the other.
pub mod Gathering
-- Serving: for which queries tables serve that were read.
pub mod Serving
-- Meant: what the audits that need no file find.
pub mod Meant
