-- Names that stand once: of two that are the same, the second one is at fault.
use Rattle.std.specs.Prelude.{ℕ, Bool, true, false, not, List, Result, Ok, if◌then◌else◌}
use Rattle.std.specs.BTreeSet.{BTreeSet, contains}
use Rattle.mesh_base_values.specs.Names.{text_cmp}
use Rattle.mesh_base_values.specs.Picked.{same_text}
use Rattle.mesh_query_tokens.specs.Gives.{◌>>=◌}
use Rattle.mesh_query_tokens.specs.Walk.{provided, along}
use Rattle.mesh_query_tokens.specs.declared.faults.ReadFault.{ReadFault}
use Rattle.mesh_resolve_types.specs.Faults.{duplicate}
use Rattle.mesh_resolve_selects.specs.declared.selects.parts.Drawn.{Drawn}
use Rattle.mesh_resolve_selects.specs.declared.outputs.outputs.Output.{Output}

-- the names so far, as a test of a name
abbrev pub Taken : Type 0
Taken = List ℕ → Bool

abbrev pub no_names : Taken
no_names name = false

abbrev pub with_name : Taken → List ℕ → Taken
with_name taken name other = if same_text name other then true else taken other

abbrev pub new_name : Taken → ℕ → List ℕ → Result Taken ReadFault
new_name taken at name = provided (not (taken name)) (with_name taken name) (duplicate at name)

abbrev pub new_output : Taken → Output → Result Taken ReadFault
new_output taken o = new_name taken o.at o.name

abbrev pub new_item : Taken → Drawn → Result Taken ReadFault
new_item taken d = new_name taken d.at d.name

-- no name stands twice among the output columns
abbrev pub outputs_apart : List Output → Result (Unit {0}) ReadFault
outputs_apart outputs = along new_output no_names outputs >>= λ taken. Ok tt

-- nor among the FROM items
abbrev pub items_apart : List Drawn → Result (Unit {0}) ReadFault
items_apart from = along new_item no_names from >>= λ taken. Ok tt

-- the names that a set has
abbrev pub names_of : BTreeSet (List ℕ) → Taken
names_of s = contains text_cmp s
