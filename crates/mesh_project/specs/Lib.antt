-- order: the definitions of the module `order`.
pub mod order
-- nodes: the definitions of the module `nodes`.
pub mod nodes
-- project: the definitions of the module `project`.
pub mod project
