-- What every model's text keeps.
use Rattle.std.specs.Prelude.{ℕ, Bool, true, ◌&&◌, not, nat_le, List, length, if◌then◌else◌}
use Rattle.std.specs.Char.{is_ascii_uppercase}
use Rattle.std.specs.List.{list_any}
use Rattle.std.specs.Option.{is_some}
use Rattle.mesh_base_values.specs.Kinds.{lookback_of}
use Rattle.mesh_base_values.specs.Names.{is_identifier, is_schema}
use Rattle.mesh_base_values.specs.declared.values.Name.{Name}
use Rattle.mesh_query_tokens.specs.Pieces.{longest_name}
use Rattle.mesh_query_tokens.specs.bounds.Numbers.{longest_lookback}
use Rattle.mesh_model_statement.specs.declared.model.model.ModelText.{ModelText}
use Rattle.mesh_model.specs.ModelTexts.{is_seed_kind, is_timed}

-- an identifier without capitals, of at most 128 bytes
abbrev pub is_word : List ℕ → Bool
is_word text = is_identifier text && (not (list_any is_ascii_uppercase text) && nat_le (length text) longest_name)

abbrev pub is_model_name : Name → Bool
is_model_name name = is_word name.schema && (is_word name.model && is_schema name.schema)

-- a SEED alone has no query
abbrev pub has_its_query : ModelText → Bool
has_its_query m = if is_seed_kind m.kind then not (is_some m.query) else is_some m.query

-- an incremental model has a start
abbrev pub has_its_start : ModelText → Bool
has_its_start m = if is_timed m.kind then is_some m.start else true

-- a model looks back over so many units at most
abbrev pub looks_back_shortly : ModelText → Bool
looks_back_shortly m = nat_le (lookback_of m.kind) longest_lookback

abbrev pub is_complete : ModelText → Bool
is_complete m = is_model_name m.name && (has_its_query m && (has_its_start m && looks_back_shortly m))
