-- Text: the canonical text of a definition, and of a list of texts.
pub mod Text
