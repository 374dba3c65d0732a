-- Parents as references, and whether they are just the names in a definition that none of its sources has.
use Rattle.std.specs.Prelude.{Bool, ◌&&◌, ◌||◌, not, List}
use Rattle.std.specs.List.{list_all, list_any}
use Rattle.std.specs.Ordering.{is_eq}
use Rattle.mesh_list.specs.Keyed.{ascends}
use Rattle.mesh_base_values.specs.declared.values.Name.{Name}
use Rattle.mesh_base.specs.declared.definitions.Own.{Own}
use Rattle.mesh_base.specs.declared.snapshots.Ref.{Ref}
use Rattle.mesh_base_values.specs.Names.{name_cmp}
use Rattle.mesh_base.specs.rules.Relations.{is_declared}
use Rattle.mesh_base.specs.rules.Proper.{is_among, defn_names}
use Rattle.mesh_base.specs.Keys.{ref_name}

-- a name is one of these references'
abbrev pub is_parent : List Ref → Name → Bool
is_parent refs name = list_any (λ (r : Ref). is_eq (name_cmp r.name name)) refs

-- a name is a declared source's or a parent's
abbrev pub is_known : List Ref → Own → Name → Bool
is_known refs own name = is_declared own.sources name || is_parent refs name

abbrev pub are_known : List Ref → Own → List Name → Bool
are_known refs own names = list_all (is_known refs own) names

-- the definition names a parent, and declares no source of its name
abbrev pub is_named : Own → Ref → Bool
is_named own r = is_among (defn_names own.defn) r.name && not (is_declared own.sources r.name)

abbrev pub are_named : Own → List Ref → Bool
are_named own refs = list_all (is_named own) refs

-- the names of the parents ascend, and are just those in the definition that none of its sources has
abbrev pub are_parents : List Ref → Own → Bool
are_parents refs own = ascends name_cmp ref_name refs && (are_named own refs && are_known refs own (defn_names own.defn))
