-- Walks: steps that are taken one after the other, up to the first fault.
pub mod Walks
-- Listings: what the models of a project list as their audits.
pub mod Listings
-- Listing: a listing as the code has it.
pub mod Listing
-- Queries: the query of an audit's file for a model.
pub mod Queries
-- Files: the files of audits, or their first fault.
pub mod Files
-- Sets: the audits of a project, or the first fault of their files and of what models list.
pub mod Sets
-- text: the definitions of the module `text`.
pub mod text
