-- faults: the definitions of the module `faults`.
pub mod faults
-- plans: the definitions of the module `plans`.
pub mod plans
-- printed: the definitions of the module `printed`.
pub mod printed
