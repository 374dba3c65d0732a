pub mod DeclareSteps
pub mod Sound
