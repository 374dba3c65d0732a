-- Externals: what the file that declares the sources says.
pub mod Externals
-- Proper: what every declared source keeps.
pub mod Proper
