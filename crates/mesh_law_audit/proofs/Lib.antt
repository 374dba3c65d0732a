-- Rows: over models that are up to date an audit's rows are those from scratch.
pub mod Rows
-- Findings: so audits find what they find from scratch, and miss no object.
pub mod Findings
-- Readable: models that are done are up to date with all that they stand on, where that is among them.
pub mod Readable
-- Filling: once the models of a plan are put, they are made and filled, and then up to date.
pub mod Filling
-- Executing: so they are after the execution of an apply, and after a run.
pub mod Executing
-- Audited: what audits find where the models of a plan are left up to date.
pub mod Audited
-- Missing: after an execution the objects of its models show rows, whether it settles or not.
pub mod Missing
-- Known: what is due and what is made, in the plan of a project and in that of a run, are what the book says.
pub mod Known
-- Made: the plan of a project, and that of a run, is executed as the promise has it, and then audited from scratch.
pub mod Made
