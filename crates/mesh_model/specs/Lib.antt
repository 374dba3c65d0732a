-- Lexed: the tokens of a text in front of its first fault.
pub mod Lexed
-- ModelTexts: what a model's file says, or its first fault.
pub mod ModelTexts
-- Reads: what reading a model's file answers.
pub mod Reads
-- Complete: what every model's text keeps.
pub mod Complete
