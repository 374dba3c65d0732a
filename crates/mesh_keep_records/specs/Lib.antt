-- Parts: the parts and the texts of options, numbers and fingerprints.
pub mod Parts
-- Records: the bodies of records, and what a program can hold of their things.
pub mod Records
-- Keys: the names that records are kept under.
pub mod Keys
-- reading: the definitions of the module `reading`.
pub mod reading
