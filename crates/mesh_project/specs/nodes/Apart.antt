-- The first model whose name a source has, or a model before it.
use Rattle.std.specs.Prelude.{Bool, true, List, Result, Ok, Err, if◌then◌else◌}
use Rattle.std.specs.BTreeSet.{BTreeSet, contains}
use Rattle.std.specs.Ordering.{is_eq}
use Rattle.mesh_base_values.specs.Names.{name_cmp}
use Rattle.mesh_base_values.specs.declared.values.Name.{Name}
use Rattle.mesh_base.specs.declared.definitions.Decl.{Decl}
use Rattle.mesh_base.specs.rules.Relations.{is_declared}
use Rattle.mesh_query_tokens.specs.declared.faults.FaultKind.TheVariants.{DuplicateModel}
use Rattle.mesh_project_files.specs.Loading.{◌>>=◌}
use Rattle.mesh_project_files.specs.declared.faults.LoadFault.{LoadFault}
use Rattle.mesh_project_files.specs.declared.faults.LoadFault.TheVariants.{Fault}
use Rattle.mesh_project_files.specs.declared.project.ModelFile.{ModelFile}
use Rattle.mesh_project.specs.nodes.Walk.{along}

-- the names so far, as a test of a name
abbrev pub Taken : Type 0
Taken = Name → Bool

-- one name more
abbrev pub with_name : Taken → Name → Taken
with_name taken name other = if is_eq (name_cmp name other) then true else taken other

-- a model whose name is taken, as a fault of its file
abbrev pub duplicate : ModelFile → LoadFault
duplicate f = Fault f.text.file 0 (DuplicateModel f.text.name)

-- the name of a model is taken, where it is new
abbrev pub with_model_name : Taken → ModelFile → Result Taken LoadFault
with_model_name taken f = if taken f.text.name then Err (duplicate f) else Ok (with_name taken f.text.name)

-- no two models have one name, and none has that of a source
abbrev pub apart : List Decl → List ModelFile → Result (Unit {0}) LoadFault
apart sources files = along with_model_name (is_declared sources) files >>= λ taken. Ok tt

-- the names that a set has
abbrev pub names_of : BTreeSet Name → Taken
names_of s = contains name_cmp s
