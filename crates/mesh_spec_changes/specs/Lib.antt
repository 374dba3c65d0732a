-- Environments: the names of views, and when an environment may go.
pub mod Environments
-- Planning: the plan of a project, and of a run.
pub mod Planning
-- Changes: the list of changes of an apply and of a run.
pub mod Changes
-- Kept: what the janitor leaves, and its list of changes.
pub mod Kept
-- Commands: the list of changes of every command.
pub mod Commands
-- Apart: plans whose objects don't get in one another's way.
pub mod Apart
-- shown: the definitions of the module `shown`.
pub mod shown
-- listed: the definitions of the module `listed`.
pub mod listed
-- reuse: the definitions of the module `reuse`.
pub mod reuse
-- due: the definitions of the module `due`.
pub mod due
-- steady: the definitions of the module `steady`.
pub mod steady
