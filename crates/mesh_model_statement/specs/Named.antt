-- How the names of models are.
use Rattle.std.specs.Prelude.{Bool, true}
use Rattle.std.specs.declared.option.Option.{Option}
use Rattle.std.specs.declared.option.Option.TheVariants.{None, Some}
use Rattle.mesh_base_values.specs.Names.{is_schema}
use Rattle.mesh_base_values.specs.declared.values.Name.{Name}

-- a name's schema is one
abbrev pub has_schema : Option Name → Bool
has_schema None = true
has_schema (Some name) = is_schema name.schema
