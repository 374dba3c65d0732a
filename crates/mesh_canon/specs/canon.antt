-- Forms: the text of a definition, in either form.
pub mod Forms
-- Text: the canonical text of a definition, and of a list of texts.
pub use Rattle.mesh_canon_text.specs.Text
