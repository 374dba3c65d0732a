-- Lists: what is found in lists without the items of some keys.
pub mod Lists
-- Loading: along a load.
pub mod Loading
-- Walks: what the changes of a sweep do, one part after another.
pub mod Walks
-- Leaving: environments go with their views.
pub mod Leaving
-- Kept: what stays in a sweep.
pub mod Kept
-- Tables: versions are forgotten, and objects go.
pub mod Tables
-- Snapshots: snapshots go.
pub mod Snapshots
-- Sweeping: along a sweep.
pub mod Sweeping
