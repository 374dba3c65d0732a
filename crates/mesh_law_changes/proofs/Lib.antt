-- Rising: lists whose items rise by their keys and each keep a rule.
pub mod Rising
-- Envs: an environment changes, or goes.
pub mod Envs
-- EnvLaws: an environment expires, is finalized or goes.
pub mod EnvLaws
-- Pending: an environment is pending, with a list.
pub mod Pending
-- ViewGone: a view goes.
pub mod ViewGone
-- Recorded: what is recorded of one version changes.
pub mod Recorded
-- Forgetting: units and marks are forgotten.
pub mod Forgetting
-- VersionGone: a version is forgotten.
pub mod VersionGone
-- ObjectGone: an object goes.
pub mod ObjectGone
-- Recording: marks or a unit are recorded.
pub mod Recording
-- ObjectPut: an object is put.
pub mod ObjectPut
-- Making: a table or a view is made.
pub mod Making
-- Replacing: the rows of a table are replaced.
pub mod Replacing
-- Writing: the rows of a unit are written.
pub mod Writing
-- SnapshotGone: a snapshot goes.
pub mod SnapshotGone
-- VersionNew: the object of a snapshot gets a version.
pub mod VersionNew
-- SnapshotPut: a snapshot joins the book, or is put again.
pub mod SnapshotPut
-- Putting: a command puts a snapshot.
pub mod Putting
-- Lefts: what is left in doubt after some changes, and then more.
pub mod Lefts
-- Migrating: the book is moved to other fingerprints.
pub mod Migrating
