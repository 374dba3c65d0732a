-- The text of a definition, in either form.
use Rattle.std.specs.Prelude.{◌≡◌, ℕ, List}
use Rattle.mesh_base_values.specs.Kinds.{lookback_of}
use Rattle.mesh_base.specs.declared.definitions.Own.{Own}
use Rattle.mesh_canon_text.specs.declared.form.Form.{Form}
use Rattle.mesh_canon_text.specs.Text.{own_by}
use Rattle.mesh_canon_reading.specs.Fits.{Said}

-- the text of a definition: its canonical one, or its former one where it has no lookback
abbrev pub IsOwnText : List ℕ → Own → Type 0
IsOwnText text m = (form : Form) × Said form (lookback_of m.kind) × (text ≡ own_by form m)
