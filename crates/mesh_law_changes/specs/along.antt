-- Along: lists of changes along which a world stays sound.
pub mod Along
-- Ready: a plan on its way.
pub mod Ready
-- Filled: one model of a plan on its way.
pub mod Filled
