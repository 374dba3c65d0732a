pub mod Places
pub mod OneMore
pub mod HeaderSteps
pub mod RowSteps
pub mod RecordSteps
pub mod Utf8
pub mod Fitting
pub mod Numbers
