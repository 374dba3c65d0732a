-- Migration: the fingerprints that the snapshots of a book get.
pub mod Migration
-- Walk: the fingerprints, found rank by rank.
pub mod Walk
