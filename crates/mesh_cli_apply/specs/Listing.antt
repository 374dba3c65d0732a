-- The models of a plan with their objects, by name.
use Rattle.std.specs.Prelude.{ℕ, List, [], ◌∷◌, map}
use Rattle.mesh_list.specs.Keyed.{placed}
use Rattle.mesh_base_values.specs.Names.{name_cmp}
use Rattle.mesh_base_values.specs.declared.values.Name.{Name}
use Rattle.mesh_base_values.specs.declared.values.Pair.{Pair}
use Rattle.mesh_base.specs.declared.plans.Entry.{Entry}
use Rattle.mesh_base.specs.declared.snapshots.Node.{Node}
use Rattle.mesh_base.specs.declared.snapshots.Ref.{Ref}
use Rattle.mesh_cli_apply.specs.declared.listing.Target.{Target}

abbrev pub target_name : Target → Name
target_name t = t.name

-- a model beside its entry
abbrev pub target : Node → Entry → Target
target n e = record { name = n.own.name; fingerprint = n.fingerprint; object = e.object }

-- models beside their entries, by name
abbrev pub targets : List Node → List Entry → List Target
targets [] es = []
targets (n ∷ ns) [] = []
targets (n ∷ ns) (e ∷ es) = placed name_cmp target_name (target n e) (targets ns es)

abbrev pub ref_of : Target → Ref
ref_of t = record { name = t.name; fingerprint = t.fingerprint }

abbrev pub object_of : Target → Name
object_of t = t.object

abbrev pub pair_of : Target → Pair
pair_of t = record { first = t.name; second = t.object }

-- what a map has under a name, as such a model
abbrev pub as_target : Name × (List ℕ × Name) → Target
as_target (name, of) = record { name = name; fingerprint = of.0; object = of.1 }

abbrev pub as_targets : List (Name × (List ℕ × Name)) → List Target
as_targets es = map as_target es
