-- Found: what entries give is what their renames give.
pub mod Found
-- Books: the snapshots of a well-formed book ascend.
pub mod Books
-- Put: new fingerprints, put in place from the lowest rank up.
pub mod Put
-- Maps: a book has one map, and moves by it where no two renames give one reference.
pub mod Maps
-- Near: the renames of one model stand together.
pub mod Near
