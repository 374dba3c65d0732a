-- Reads: the relations that the text of a query names.
pub mod Reads
-- Earlier: the models before another one, and which of them its query names.
pub mod Earlier
-- Walk: a walk up to its first fault.
pub mod Walk
-- Apart: names that stand once.
pub mod Apart
-- Nodes: a model over those before it.
pub mod Nodes
